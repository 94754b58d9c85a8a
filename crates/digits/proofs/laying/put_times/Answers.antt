use mathlib.Core.Path.{◌∙◌}
use Rattle.laws.proofs.Laid.{lay-next-time}
use Rattle.digits.proofs.laying.put_times.Goals as goal

pub loop-j-preserved : goal.loop-j-preserved
loop-j-preserved c =
    let L = c.loop-j in
    let a = c.args in
    lay-next-time L.out a.at a.b a.times L.j c.loop-j-test.true ∙ L.invariant
