-- What is counted and the names that are left are the whole book.
use mathlib.Core.Path.{◌≡◌}
use Prim.Native.Nat.{◌+◌, ◌*◌, ◌≤◌}
use lib.ListN.{length, drop}
use Rattle.meaning.specs.Books.{shelve_names, book_bytes}
use Rattle.books.specs.Places.{names_by}
use Rattle.books.proofs.laying.book_length.Given as goal

abbrev pub invariant-loop-place : goal.invariant-loop-place
invariant-loop-place l = (l.n ≤ 5 + l.place-index * 256) × (l.n + length (shelve_names (names_by l.bytes (drop l.place-index l.places))) ≡ length (book_bytes (names_by l.bytes l.places)))
