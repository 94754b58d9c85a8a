use mathlib.Core.Path.{refl, ◌∙◌}
use lib.ListN.{get_or}
use native.Mathlib.Omega.{arith}
use Rattle.books.proofs.laying.Laws.{name-short, opened-from, none-opened, room-length, still-laid, still-long}
use Rattle.books.proofs.laying.put_rooms.Goals as goal

pub loop-place-init : goal.loop-place-init
loop-place-init c = (refl, refl, omega arith, refl)

pub put_room-at-requires : goal.put_room-at-requires
put_room-at-requires c =
    let a = c.args in record {
      name_len_bound = rw c.name_at.ensures (name-short a.bytes.now (get_or a.places.now c.loop-place.place-index 0));
      at_in_bounds = omega (arith, c.loop-place.invariant.0, c.loop-place.invariant.1, c.requires.in_bounds);
    }

pub loop-place-preserved : goal.loop-place-preserved
loop-place-preserved c =
    let step = c.put_room-at in
    let name = c.name_at in
    let a = c.args in
    let L = c.loop-place in
    let all = opened-from a.bytes.now a.places.now L.place-index (omega (arith, c.requires.places_len)) in
    let e = rw (← name.ensures) at all in (
      omega (arith, step.ensures.end, room-length name.result.now, L.invariant.0),
      step.auto.out ∙ L.invariant.1,
      still-long step.ensures _ _ e L.invariant.2,
      still-laid step.ensures _ _ e L.invariant.3,
    )

pub returns : goal.returns
returns c =
    let a = c.args in
    let none = none-opened a.bytes.now a.places.now c.loop-place.place-index (omega (arith, c.requires.places_len)) in
    record { end = omega (arith, rw none at c.loop-place.invariant.2); held = rw none at c.loop-place.invariant.3 }
