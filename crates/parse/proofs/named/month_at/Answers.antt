-- The place is a number of 64 signed bits.
use Prim.Native.Nat.{◌+◌}
use native.Mathlib.Numerals.{add-one}
use native.Mathlib.Omega.{arith}
use Rattle.numerals.proofs.Integers.{widened}
use Rattle.parse.proofs.named.month_at.Goals as goal

pub returns : goal.returns
returns c = rw (widened (c.args.i + 1) (omega arith), add-one)
