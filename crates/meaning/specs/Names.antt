-- Specification, "Names are English, from constants.rs": the names, as lists that writer and matcher share. Month and weekday
-- names come from a book, of which English is one; eras, quarters and periods are the same in every book. Which name is
-- written is in Writing, what a name carries in Reading.
use Rattle.std.specs.Prelude.{List, [], ◌∷◌, map, ℕ}
use Prim.Native.String.{String}
use Rattle.meaning.specs.Bytes.{bytes}
use Rattle.meaning.specs.declared.NameList.{NameList}
use Rattle.meaning.specs.declared.NameList.TheVariants.{EraAbbreviated, EraNarrow, EraWide, QuarterWide, MonthAbbreviated, MonthWide, MonthNarrow, WdayAbbreviated, WdayWide, WdayNarrow, WdayShort, PeriodUpper, PeriodLower, PeriodDotted, PeriodLetter, NoonUpper, NoonLower, NoonDotted, NoonLetter}

pub record Book : Type 0 where
  pub month_wide : List (List ℕ)
  pub month_abbreviated : List (List ℕ)
  pub month_narrow : List (List ℕ)
  pub wday_wide : List (List ℕ)
  pub wday_abbreviated : List (List ℕ)
  pub wday_short : List (List ℕ)
  pub wday_narrow : List (List ℕ)

unfoldable pub english : Book
unfolding bytes
english =
    record {
      month_wide =
          map bytes
          ("January" ∷ "February" ∷ "March" ∷ "April" ∷ "May" ∷ "June" ∷ "July" ∷ "August" ∷ "September" ∷ "October"
          ∷ "November" ∷ "December" ∷ []);
      month_abbreviated =
          map bytes
          ("Jan" ∷ "Feb" ∷ "Mar" ∷ "Apr" ∷ "May" ∷ "Jun" ∷ "Jul" ∷ "Aug" ∷ "Sep" ∷ "Oct" ∷ "Nov" ∷ "Dec" ∷ []);
      month_narrow = map bytes ("J" ∷ "F" ∷ "M" ∷ "A" ∷ "M" ∷ "J" ∷ "J" ∷ "A" ∷ "S" ∷ "O" ∷ "N" ∷ "D" ∷ []);
      wday_wide =
          map bytes ("Sunday" ∷ "Monday" ∷ "Tuesday" ∷ "Wednesday" ∷ "Thursday" ∷ "Friday" ∷ "Saturday" ∷ []);
      wday_abbreviated = map bytes ("Sun" ∷ "Mon" ∷ "Tue" ∷ "Wed" ∷ "Thu" ∷ "Fri" ∷ "Sat" ∷ []);
      wday_short = map bytes ("Su" ∷ "Mo" ∷ "Tu" ∷ "We" ∷ "Th" ∷ "Fr" ∷ "Sa" ∷ []);
      wday_narrow = map bytes ("S" ∷ "M" ∷ "T" ∷ "W" ∷ "T" ∷ "F" ∷ "S" ∷ []);
    }

-- the two letters of a period, in the order in which a match tries them
abbrev period_letters : List String
period_letters = "am" ∷ "AM" ∷ "pm" ∷ "PM" ∷ []

abbrev noon_words : List String
noon_words = "am" ∷ "AM" ∷ "midnight" ∷ "pm" ∷ "PM" ∷ "noon" ∷ []

-- the names of a list, in the order in which a match tries them
unfoldable pub names : Book → NameList → List (List ℕ)
unfolding bytes
names book EraAbbreviated = map bytes ("BC" ∷ "AD" ∷ [])
names book EraNarrow = map bytes ("B" ∷ "A" ∷ [])
names book EraWide = map bytes ("Before Christ" ∷ "Anno Domini" ∷ [])
names book QuarterWide = map bytes ("1st quarter" ∷ "2nd quarter" ∷ "3rd quarter" ∷ "4th quarter" ∷ [])
names book MonthAbbreviated = book.month_abbreviated
names book MonthWide = book.month_wide
names book MonthNarrow = book.month_narrow
names book WdayAbbreviated = book.wday_abbreviated
names book WdayWide = book.wday_wide
names book WdayNarrow = book.wday_narrow
names book WdayShort = book.wday_short
names book PeriodUpper = map bytes period_letters
names book PeriodLower = map bytes period_letters
names book PeriodDotted = map bytes ("a.m." ∷ "p.m." ∷ [])
names book PeriodLetter = map bytes ("a" ∷ "p" ∷ [])
names book NoonUpper = map bytes noon_words
names book NoonLower = map bytes noon_words
names book NoonDotted = map bytes ("a.m." ∷ "midnight" ∷ "p.m." ∷ "noon" ∷ [])
names book NoonLetter = map bytes ("a" ∷ "mi" ∷ "p" ∷ "n" ∷ [])
