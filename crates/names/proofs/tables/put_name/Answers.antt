-- The bytes that are laid are those of the name's room.
use mathlib.Core.Path.{◌∙◌}
use Prim.Native.Nat.{◌+◌, ◌-◌, ◌*◌, ◌<◌}
use native.Mathlib.Omega.{arith}
use lib.ListN.{length, length-set}
use Rattle.laws.proofs.Laid.{lay-next}
use Rattle.names.specs.Table.{name_in}
use Rattle.names.proofs.tables.Laws.{room-part}
use Rattle.names.proofs.tables.put_name.Goals as goal

pub loop-j-preserved : goal.loop-j-preserved
loop-j-preserved c =
    let L = c.loop-j in
    let a = c.args in
    let n = c.length_at-size in
    let from = a.index * 21 + 1 in
    let name = name_in a.most a.rows.now a.index in
    let part = room-part a.most a.rows.now a.index (from + n.result - from) c.requires.most_bound.0 c.requires.most_bound.1 (omega (arith, n.ensures)) in
    let there : L.j < length name = rw (← part) c.loop-j-test.true in
    rw part (lay-next L.out a.at name L.j 0 there ∙ L.invariant.0, length-set L.out (a.at + L.j) _ ∙ L.invariant.1)
