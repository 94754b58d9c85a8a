use mathlib.Core.Path.{refl, ◌∙◌}
use lib.ListN.{get_or}
use native.Mathlib.Omega.{arith}
use Rattle.laws.proofs.Laid.{laid_then}
use Rattle.laws.specs.Laid.{Laid}
use Rattle.meaning.specs.Books.{shelve_names}
use Rattle.books.specs.Places.{names_by}
use Rattle.books.proofs.laying.Laws.{name-short, shelved-from, shelved-length, none-shelved, book-is, book-size, still-laid, still-long}
use Rattle.books.proofs.laying.put_book.Goals as goal

pub put_bytes-at-requires : goal.put_bytes-at-requires
put_bytes-at-requires c =
    let a = c.args in
    omega (arith, c.requires.places_in_bounds, book-size (names_by a.bytes.now a.places.now))

pub loop-place-init : goal.loop-place-init
loop-place-init c = (refl, refl, refl)

pub put_name-at-requires : goal.put_name-at-requires
put_name-at-requires c =
    let a = c.args in
    let name = c.name_at in
    let size = shelved-length a.bytes.now a.places.now c.loop-place.place-index (omega (arith, c.requires.places_len)) in record {
      name_len_bound = rw name.ensures (name-short a.bytes.now (get_or a.places.now c.loop-place.place-index 0));
      name_in_bounds = omega (
        arith,
        c.loop-place.invariant.0,
        c.loop-place.invariant.1,
        c.requires.places_in_bounds,
        c.put_bytes-at.ensures.end,
        c.put_bytes-at.auto.out,
        book-size (names_by a.bytes.now a.places.now),
        rw (← name.ensures) at size,
      );
    }

pub loop-place-preserved : goal.loop-place-preserved
loop-place-preserved c =
    let step = c.put_name-at in
    let name = c.name_at in
    let a = c.args in
    let L = c.loop-place in
    let e = rw (← name.ensures) at (shelved-from a.bytes.now a.places.now L.place-index (omega (arith, c.requires.places_len))) in (
      step.auto.out ∙ L.invariant.0,
      still-long step.ensures _ _ e L.invariant.1,
      still-laid step.ensures _ _ e L.invariant.2,
    )

pub shape_of-out : goal.shape_of-out
shape_of-out c = c.loop-place.invariant.0 ∙ c.put_bytes-at.auto.out

pub returns : goal.returns
returns c =
    let a = c.args in
    let L = c.loop-place in
    let none = none-shelved a.bytes.now a.places.now L.place-index (omega (arith, c.requires.places_len)) in
    let names_laid : Laid c.put_bytes-at.new.out L.out c.put_bytes-at.result L.at (shelve_names (names_by a.bytes.now a.places.now))
    = record { end = omega (arith, rw none at L.invariant.1); held = rw none at L.invariant.2 } in
    rw (book-is (names_by a.bytes.now a.places.now)) (laid_then c.put_bytes-at.ensures names_laid)
