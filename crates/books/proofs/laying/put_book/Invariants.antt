-- What lies there and the names still to be laid are all of them.
use mathlib.Core.Path.{◌≡◌}
use Prim.Native.Nat.{◌+◌}
use lib.ListN.{length, drop}
use lib.Seq.{sets}
use Rattle.meaning.specs.Books.{shelve_names}
use Rattle.books.specs.Places.{names_by}
use Rattle.books.proofs.laying.put_book.Given as goal

abbrev pub invariant-loop-place : goal.invariant-loop-place
invariant-loop-place l =
    (length l.out ≡ length l.initial.out)
    × (l.at + length (shelve_names (names_by l.bytes (drop l.place-index l.places))) ≡ l.initial.at + length (shelve_names (names_by l.bytes l.places)))
    × (sets l.out l.at (shelve_names (names_by l.bytes (drop l.place-index l.places))) ≡ sets l.initial.out l.initial.at (shelve_names (names_by l.bytes l.places)))
