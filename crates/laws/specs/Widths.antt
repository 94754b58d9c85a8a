-- How many bytes a quantity, a name and a rule can write at most, for a record that is allowed and any book.
use Rattle.std.specs.Prelude.{Bool, List, [], ◌∷◌, ℕ, ◌+◌, max, length}
use Rattle.std.proofs.Math.Option.{Option, none, some}
use Rattle.meaning.specs.Books.{Shelf}
use Rattle.meaning.specs.Names.{english, names}
use Rattle.meaning.specs.Reading.{colon_length}
use Rattle.meaning.specs.declared.Group.{Group}
use Rattle.meaning.specs.declared.Group.TheVariants.{Never, NotZero, Always}
use Rattle.meaning.specs.declared.NameList.{NameList}
use Rattle.meaning.specs.declared.Quantity.{Quantity}
use Rattle.meaning.specs.declared.Quantity.TheVariants.{Month, Quarter, Week, Day, DayOfYear, Weekday, WeekdayFromMonday, Hour1To12, Hour0To11, Hour0To23, Hour1To24, Minute, Second, Fraction}
use Rattle.meaning.specs.declared.Rule.{Rule}
use Rattle.meaning.specs.declared.Rule.TheVariants.{Number, SkippedNumber, LetterQuarter, SkippedName, MatchedName, Letters, Years, FixedYear, TwoDigitYear, Zone}
use Rattle.laws.specs.Shelves.{shelf_of}

unfoldable pub most_digits : Quantity → ℕ
most_digits Month = 2
most_digits Quarter = 1
most_digits Week = 2
most_digits Day = 2
most_digits DayOfYear = 3
most_digits Weekday = 1
most_digits WeekdayFromMonday = 1
most_digits Hour1To12 = 2
most_digits Hour0To11 = 2
most_digits Hour0To23 = 2
most_digits Hour1To24 = 2
most_digits Minute = 2
most_digits Second = 2
most_digits (Fraction k) = k

-- the length of the longest name
unfoldable pub longest : List (List ℕ) → ℕ
longest [] = 0
longest (name ∷ names) = max (length name) (longest names)

-- the most letters of a name: what its shelf lets it have, or those of the names that are the same in every book
abbrev pub most_on : Option Shelf → NameList → ℕ
most_on none l = longest (names english l)
most_on (some s) l = s.most

unfoldable pub most_letters : NameList → ℕ
unfolding longest names
most_letters l = most_on (shelf_of l) l

abbrev pub group_most : Bool → Group → ℕ
group_most colon Never = 0
group_most colon NotZero = colon_length colon + 2
group_most colon Always = colon_length colon + 2

-- a year has at most seven digits and a sign, a zone a sign, two digits and its groups
unfoldable pub most_bytes : Rule → ℕ
unfolding most_digits most_letters
most_bytes (Number q least most u z) = max least (max 1 (most_digits q))
most_bytes (SkippedNumber q least most) = max least (max 1 (most_digits q))
most_bytes LetterQuarter = 2
most_bytes (SkippedName l n) = most_letters l
most_bytes (MatchedName l) = most_letters l
most_bytes (Letters l n) = most_letters l
most_bytes (Years k) = 1 + max k 7
most_bytes (FixedYear k) = 1 + max k 7
most_bytes TwoDigitYear = 3
most_bytes (Zone zone) = 3 + group_most zone.colon zone.minutes + group_most zone.colon zone.seconds
