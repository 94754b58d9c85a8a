use Prim.Native.Nat.{◌+◌, ◌*◌, ◌/◌, ◌<◌, ◌≤◌}
use lib.ListN.{length, drop, length-set}
use mathlib.Core.Path.{◌≡◌, ◌∙◌}
use native.Mathlib.Omega.{arith}
use Rattle.rows.proofs.changes.Changes.{are-here, held_next, are_whole, held-turn, held-end}
use Rattle.rows.specs.Changes.{changes_held, change_at}
use Rattle.rows.proofs.changes.changes_held.Goals as goal

pub change_at-requires : goal.change_at-requires
change_at-requires c =
    let row = c.args.row.now in
    let at = 4 * c.loop-i.i in
    let inside : at + 4 ≤ length row = omega (arith, c.loop-i-test.true) in
    (inside, (are-here row at inside c.loop-i.invariant.1).0)

pub loop-i-preserved : goal.loop-i-preserved
loop-i-preserved c =
    let row = c.args.row.now in
    let L = c.loop-i in
    let at = 4 * L.i in
    let inside : at + 4 ≤ length row = omega (arith, c.loop-i-test.true) in
    let next : 4 * (L.i + 1) ≡ at + 4 = omega arith in
    let here : L.i < length L.listed = omega (arith, inside, c.requires.0, L.invariant.2) in
    let later = (are-here row at inside L.invariant.1).1 in
    let held = rw (held_next row at inside) at L.invariant.0 in
    let turn = held-turn L.listed L.i (change_at row at) (changes_held (drop (at + 4) row)) here held in
    (rw (c.change_at.ensures, next) turn, rw next later, length-set L.listed L.i c.change_at.result ∙ L.invariant.2)

pub returns : goal.returns
returns c =
    let row = c.args.row.now in
    let all : length row ≤ 4 * c.loop-i.i = omega (arith, are_whole row c.requires.1, c.loop-i-test.false) in
    let used : length row / 4 ≡ c.loop-i.i = omega (arith, all, c.loop-i.auto.i-end) in
    rw used (held-end c.loop-i.listed c.loop-i.i row (4 * c.loop-i.i) all c.loop-i.invariant.0)
