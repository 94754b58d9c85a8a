-- The check of the names that are left, behind the ones before.
use mathlib.Core.List.{[]}
use mathlib.Core.Path.{◌≡◌}
use Prim.Native.Nat.{suc, ◌+◌, ◌-◌}
use lib.ListN.{drop}
use Rattle.meaning.specs.Books.{shelf_check}
use Rattle.books.specs.Places.{names_by, earlier}
use Rattle.books.specs.Shelves.{meant}
use Rattle.books.proofs.shelves.check_shelf.Given as goal

abbrev pub invariant-loop-count : goal.invariant-loop-count
invariant-loop-count l =
    shelf_check (meant l.shelf) (l.shelf.count - l.count) (suc (l.first + l.count)) (earlier l.bytes l.places l.first l.count) (names_by l.bytes (drop (l.first + l.count) l.places))
    ≡ shelf_check (meant l.shelf) l.shelf.count (suc l.first) [] (names_by l.bytes (drop l.first l.places))
