-- The lists of a book as the code has them, and their checks by the places of the names.
use Rattle.std.specs.Prelude.{Bool, List, [], ℕ, suc, ◌+◌, get_or, drop}
use Rattle.books.specs.Places.{name_in, names_by, earlier}
use Rattle.books.specs.declared.shelves.Shelf.{Shelf}
use Rattle.meaning.specs.Books as books
use Rattle.meaning.specs.Results.{Checked}

abbrev pub meant : Shelf → books.Shelf
meant s = books.shelf s.count s.least s.most s.apart

-- the name behind so many from the first of its list on
abbrev pub good_at : Shelf → List ℕ → List ℕ → ℕ → ℕ → Bool
good_at shelf s places first count = books.is_good (meant shelf) (earlier s places first count) (name_in s (get_or places (first + count) 0))

-- a list from its first name on
abbrev pub list_check : Shelf → List ℕ → List ℕ → ℕ → Checked
list_check shelf s places first = books.shelf_check (meant shelf) shelf.count (suc first) [] (names_by s (drop first places))
