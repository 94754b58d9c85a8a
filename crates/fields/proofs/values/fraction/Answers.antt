-- Cut by the power of ten that the digits leave over.
use Prim.Native.Nat.{◌-◌}
use native.Mathlib.Omega.{arith}
use Rattle.laws.proofs.Fields.{ten-positive}
use Rattle.fields.proofs.values.fraction.Goals as goal

pub nonzero_div-result : goal.nonzero_div-result
nonzero_div-result c =
    omega (arith, c.ten_to.ensures, ten-positive (9 - c.args.digits))
