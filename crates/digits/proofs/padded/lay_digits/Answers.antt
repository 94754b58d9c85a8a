use mathlib.Core.Path.{sym, ◌∙◌}
use Rattle.laws.proofs.Digits.{digits-turn, digits-done}
use Rattle.digits.proofs.padded.lay_digits.Goals as goal

pub loop-i-preserved : goal.loop-i-preserved
loop-i-preserved c =
    let L = c.loop-i in
    digits-turn L.out c.args.at L.i L.m c.loop-i-test.true ∙ L.invariant

pub returns : goal.returns
returns c =
    let L = c.loop-i in
    sym (digits-done L.out c.args.at L.i L.m c.loop-i-test.false) ∙ L.invariant
