-- The bit of the unit, as the code takes it out.
use native.Mathlib.Omega.{arith}
use lib.Bits.{and_mask}
use Rattle.meaning.specs.Whole.{marked}
use Rattle.reader.proofs.record.Units.{unit-below}
use Rattle.reader.proofs.record.was_read.Goals as goal

pub overflow_cast-result : goal.overflow_cast-result
overflow_cast-result c = omega (arith, c.unit_number-k.ensures, unit-below c.args.unit)

pub overflow_shr-result : goal.overflow_shr-result
overflow_shr-result c = omega (arith, c.unit_number-k.ensures, unit-below c.args.unit)

pub returns : goal.returns
unfolding marked
returns c = rw (c.unit_number-k.ensures, and_mask _ 1)
