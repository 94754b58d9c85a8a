use Prim.Native.Nat.{◌+◌, ◌<◌}
use lib.IntN.{pos}
use lib.ListN.{length, length-set, length-map, get_or-map}
use mathlib.Core.List.{map}
use mathlib.Core.Path.{◌∙◌}
use native.Mathlib.Omega.{arith}
use Rattle.laws.proofs.Laid.{lay-next}
use Rattle.rows.proofs.entries.Stored.{stored}
use Rattle.rows.proofs.entries.lay_places.Goals as goal

pub loop-j-preserved : goal.loop-j-preserved
loop-j-preserved c =
    let L = c.loop-j in
    let a = c.args in
    let places = a.places.now in
    let numbers = map pos places in
    let there : L.j < length numbers = omega (arith, length-map places pos) in
    rw (stored c.from.result c.from.type_inv, c.from.ensures, ← get_or-map pos places L.j 0)
    (lay-next L.row a.at numbers L.j (pos 0) there ∙ L.invariant.0, length-set L.row (a.at + L.j) _ ∙ L.invariant.1)
