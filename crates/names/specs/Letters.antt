-- Request [11]: names by their letters, as numbers of eight bytes.
use Rattle.std.specs.Prelude.{Bool, true, false, List, [], ◌∷◌, ◌++◌, ◌≡◌, ℕ, zero, suc, ◌+◌, ◌*◌, ◌/◌, ◌%◌, ◌<◌, ltb, length, get_or, take}
use Rattle.meaning.specs.Bytes.{when}
use Rattle.meaning.specs.Names.{names, english}
use Rattle.meaning.specs.declared.NameList.{NameList}
use Rattle.meaning.specs.declared.NameList.TheVariants.{MonthWide, WdayWide}
use Rattle.names.specs.declared.letters.Spelled.{Spelled}
use Rattle.names.specs.declared.letters.Spelling.{Spelling}

-- so many bytes of a number, the lowest first
unfoldable pub bytes_of : ℕ → ℕ → List ℕ
bytes_of zero w = []
bytes_of (suc n) w = (w % 256) ∷ bytes_of n (w / 256)

-- bytes as one number
unfoldable pub number_of : List ℕ → ℕ
number_of [] = 0
number_of (b ∷ bs) = b + 256 * number_of bs

-- the nine letters of a spelling, and the name that it stands for
abbrev pub letters_of : Spelling → List ℕ
letters_of s = bytes_of 8 s.first ++ s.ninth ∷ []

abbrev pub spelled_by : Spelling → List ℕ
spelled_by s = take s.length (letters_of s)

-- the wide names of the months, then those of the weekdays
abbrev pub name_numbered : ℕ → List ℕ
name_numbered n = get_or (names english MonthWide ++ names english WdayWide) n []

-- the names of an English list are those from a number on, cut to the most letters
abbrev pub IsSpelled : NameList → ℕ → ℕ → Type 0
IsSpelled list from most =
    (i : ℕ) → i < length (names english list) → take most (name_numbered (from + i)) ≡ get_or (names english list) i []

-- the name of a month, or of a weekday, begins a text
pub record Begun (weekday : Bool) (most : ℕ) (text : List ℕ) (r : Spelled) : Type 0 where
  pub below : r.name < 19
  pub kind : ltb r.name 12 ≡ when weekday false true
  pub size : r.length ≡ length (take most (name_numbered r.name))
  pub letters : take r.length text ≡ take most (name_numbered r.name)
