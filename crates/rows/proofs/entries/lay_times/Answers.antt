use Prim.Native.Nat.{◌+◌, ◌-◌}
use lib.ListN.{length, take, drop, replicate, length-drop, length-replicate}
use lib.Seq.{length-take-le}
use mathlib.Core.Path.{◌≡◌, ◌∙◌}
use mir.Syntax.{w64}
use mir.ValLaws.{to_z-of_z}
use native.Mathlib.Omega.{arith}
use Rattle.rows.proofs.entries.Stored.{over}
use Rattle.rows.proofs.entries.lay_times.Goals as goal

pub returns : goal.returns
returns c =
    let a = c.args in
    let row = a.row.now in
    let times : length (take (a.at + a.times - a.at) (drop a.at row)) ≡ a.times =
    length-take-le (a.at + a.times - a.at) (drop a.at row) (omega (arith, length-drop a.at row)) ∙ omega arith in
    let filled = rw (times, to_z-of_z w64 a.number c.ranges.number) at c.fill.ensures.after (λ y e. e) in
    let long = length-replicate a.times a.number in
    rw filled (over a.at _ row (replicate a.times a.number) (omega (arith, long)) (omega (arith, long, c.requires)))
