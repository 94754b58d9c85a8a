-- The check of the lists that are left, behind the ones before.
use mathlib.Core.Path.{◌≡◌}
use Prim.Native.Nat.{suc, ◌+◌}
use lib.ListN.{drop}
use Rattle.meaning.specs.Books.{shelves, names_check}
use Rattle.books.specs.Places.{names_by}
use Rattle.books.proofs.shelves.Laws.{total}
use Rattle.books.proofs.shelves.check_names.Given as goal

abbrev pub invariant-loop-shelf : goal.invariant-loop-shelf
invariant-loop-shelf l =
    (l.first + total (drop l.shelf-index shelves) ≡ 64)
    × (names_check (drop l.shelf-index shelves) (suc l.first) (names_by l.bytes (drop l.first l.places)) ≡ names_check shelves 1 (names_by l.bytes l.places))
