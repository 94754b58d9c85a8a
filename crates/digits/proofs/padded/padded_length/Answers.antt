-- The larger of the padding and the width.
use native.Mathlib.Omega.{arith}
use Rattle.laws.proofs.Digits.{length-num}
use Rattle.digits.proofs.padded.padded_length.Goals as goal

pub returns : goal.returns
returns c = omega (arith, length-num c.args.k c.args.n)
