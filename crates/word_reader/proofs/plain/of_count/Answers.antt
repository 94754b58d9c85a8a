-- The number is one of 64 signed bits.
use native.Mathlib.Omega.{arith}
use Rattle.numerals.proofs.Integers.{widened}
use Rattle.word_reader.proofs.plain.of_count.Goals as goal

pub returns : goal.returns
returns c = rw (widened c.args.n (omega arith))
