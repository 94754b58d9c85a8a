-- Names where they stand: each by the place of its length in a list of bytes. So stand those of a book's bytes, and those of an opened book.
use Rattle.std.specs.Prelude.{List, [], ◌∷◌, ℕ, zero, suc, ◌+◌, get_or, drop, Option, Some, None}
use Rattle.meaning.specs.Books.{Shelved, cut, shelved}
use Rattle.meaning.specs.OpenedBooks.{name_at}

abbrev pub name_in : List ℕ → ℕ → List ℕ
name_in s at = name_at 255 (drop at s)

unfoldable pub names_by : List ℕ → List ℕ → List (List ℕ)
names_by s [] = []
names_by s (at ∷ places) = name_in s at ∷ names_by s places

-- the names of so many places from a first one on, the last of them first
unfoldable pub earlier : List ℕ → List ℕ → ℕ → ℕ → List (List ℕ)
earlier s places first zero = []
earlier s places first (suc k) = name_in s (get_or places (first + k) 0) ∷ earlier s places first k

-- what was found of a book's bytes: names at these places, and what is behind the last
abbrev pub shelved_by : List ℕ → List ℕ → Option ℕ → Shelved
shelved_by s places None = cut
shelved_by s places (Some end) = shelved (names_by s places) (drop end s)
