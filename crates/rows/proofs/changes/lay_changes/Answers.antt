use Prim.Native.Nat.{◌≤◌, ◌<◌}
use lib.ListN.{length}
use mathlib.Core.Path.{sym, ◌∙◌}
use native.Mathlib.Omega.{arith}
use Rattle.rows.proofs.changes.Changes.{changes-turn, changes-end, change-fits}
use Rattle.rows.proofs.changes.lay_changes.Goals as goal

pub lay_change-requires : goal.lay_change-requires
lay_change-requires c =
    (omega (arith, c.loop-i.invariant.1), change-fits c.args.changes.now c.requires.1 c.loop-i.i)

pub loop-i-preserved : goal.loop-i-preserved
loop-i-preserved c =
    let cs = c.args.changes.now in
    let here : c.loop-i.i < length cs = omega arith in
    (rw c.lay_change.ensures (changes-turn c.loop-i.row cs c.loop-i.i here ∙ c.loop-i.invariant.0), omega (arith, c.lay_change.auto.row, c.loop-i.invariant.1))

pub returns : goal.returns
returns c =
    let all : length c.args.changes.now ≤ c.loop-i.i = omega arith in
    sym (changes-end c.loop-i.row c.args.changes.now c.loop-i.i all) ∙ c.loop-i.invariant.0
