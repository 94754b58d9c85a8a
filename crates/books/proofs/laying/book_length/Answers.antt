use Prim.Native.Nat.{◌<◌}
use lib.ListN.{length, get_or}
use native.Mathlib.Omega.{arith}
use Rattle.books.specs.Places.{names_by}
use Rattle.books.proofs.laying.Laws.{name-short, shelved-length, none-shelved, book-size}
use Rattle.books.proofs.laying.book_length.Goals as goal

short : (c : goal.After-name_at) → length c.name_at.result.now < 256
short c =
    let a = c.args in
    rw c.name_at.ensures (name-short a.bytes.now (get_or a.places.now c.loop-place.place-index 0))

pub loop-place-init : goal.loop-place-init
loop-place-init c =
    let a = c.args in
    (omega arith, omega (arith, book-size (names_by a.bytes.now a.places.now)))

pub overflow_add-n : goal.overflow_add-n
overflow_add-n c = omega (arith, short c)

pub overflow_add-n-in-loop-place : goal.overflow_add-n-in-loop-place
overflow_add-n-in-loop-place c = omega (arith, short c)

pub loop-place-preserved : goal.loop-place-preserved
loop-place-preserved c =
    let a = c.args in
    let L = c.loop-place in
    let size = shelved-length a.bytes.now a.places.now L.place-index (omega (arith, c.requires)) in
    (omega (arith, short c), omega (arith, L.invariant.1, rw (← c.name_at.ensures) at size))

pub returns : goal.returns
returns c =
    let a = c.args in
    let none = none-shelved a.bytes.now a.places.now c.loop-place.place-index (omega (arith, c.requires)) in
    omega (arith, rw none at c.loop-place.invariant.1)
