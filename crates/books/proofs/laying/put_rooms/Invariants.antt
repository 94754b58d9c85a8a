-- What lies there and the names still to be laid are all of them.
use mathlib.Core.Path.{◌≡◌}
use Prim.Native.Nat.{◌+◌, ◌*◌}
use lib.ListN.{length, drop}
use lib.Seq.{sets}
use Rattle.meaning.specs.OpenedBooks.{opened_names}
use Rattle.books.specs.Places.{names_by}
use Rattle.books.proofs.laying.put_rooms.Given as goal

abbrev pub invariant-loop-place : goal.invariant-loop-place
invariant-loop-place l =
    (l.at ≡ l.place-index * 21) × (length l.out ≡ length l.initial.out)
    × (l.at + length (opened_names (names_by l.bytes (drop l.place-index l.places))) ≡ length (opened_names (names_by l.bytes l.places)))
    × (sets l.out l.at (opened_names (names_by l.bytes (drop l.place-index l.places))) ≡ sets l.initial.out 0 (opened_names (names_by l.bytes l.places)))
