use Prim.Native.Nat.{◌+◌}
use lib.ListN.{length-set}
use mathlib.Core.Path.{◌∙◌}
use Rattle.laws.proofs.Laid.{lay-next}
use Rattle.digits.proofs.laying.put_bytes.Goals as goal

pub loop-j-preserved : goal.loop-j-preserved
loop-j-preserved c =
    let L = c.loop-j in
    let a = c.args in
    (lay-next L.out a.at a.src.now L.j 0 c.loop-j-test.true ∙ L.invariant.0, length-set L.out (a.at + L.j) _ ∙ L.invariant.1)
