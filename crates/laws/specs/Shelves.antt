-- The shelf that a book has a list of names on, if it is the book's.
use Rattle.std.specs.Prelude.{true, false}
use Rattle.std.proofs.Math.Option.{Option, none, some}
use Rattle.meaning.specs.Books.{Shelf, shelf}
use Rattle.meaning.specs.declared.NameList.{NameList}
use Rattle.meaning.specs.declared.NameList.TheVariants.{EraAbbreviated, EraNarrow, EraWide, QuarterWide, MonthAbbreviated, MonthWide, MonthNarrow, WdayAbbreviated, WdayWide, WdayNarrow, WdayShort, PeriodUpper, PeriodLower, PeriodDotted, PeriodLetter, NoonUpper, NoonLower, NoonDotted, NoonLetter}

abbrev pub shelf_of : NameList → Option Shelf
shelf_of EraAbbreviated = none
shelf_of EraNarrow = none
shelf_of EraWide = none
shelf_of QuarterWide = none
shelf_of MonthAbbreviated = some (shelf 12 2 20 true)
shelf_of MonthWide = some (shelf 12 2 20 true)
shelf_of MonthNarrow = some (shelf 12 1 1 false)
shelf_of WdayAbbreviated = some (shelf 7 3 3 false)
shelf_of WdayWide = some (shelf 7 2 20 true)
shelf_of WdayNarrow = some (shelf 7 1 1 false)
shelf_of WdayShort = some (shelf 7 2 2 false)
shelf_of PeriodUpper = none
shelf_of PeriodLower = none
shelf_of PeriodDotted = none
shelf_of PeriodLetter = none
shelf_of NoonUpper = none
shelf_of NoonLower = none
shelf_of NoonDotted = none
shelf_of NoonLetter = none
