-- The numbers of the tables.
use Rattle.std.specs.Prelude.{[], ◌∷◌, ℕ, ◌-◌, get_or}
use Rattle.meaning.specs.declared.NameList.{NameList}
use Rattle.meaning.specs.declared.NameList.TheVariants.{EraAbbreviated, EraNarrow, EraWide, QuarterWide, MonthAbbreviated, MonthWide, MonthNarrow, WdayAbbreviated, WdayWide, WdayNarrow, WdayShort, PeriodUpper, PeriodDotted, PeriodLetter, NoonUpper, NoonDotted, NoonLetter}

-- the list whose names a numbered table holds: first those that are the same in every book, then the weekdays and the months
abbrev pub list_at : ℕ → NameList
list_at n =
    get_or
    (EraAbbreviated ∷ EraNarrow ∷ EraWide ∷ PeriodDotted ∷ PeriodLetter
    ∷ QuarterWide ∷ PeriodUpper ∷ NoonDotted ∷ NoonLetter
    ∷ NoonUpper
    ∷ WdayWide ∷ WdayAbbreviated ∷ WdayShort ∷ WdayNarrow
    ∷ MonthWide ∷ MonthAbbreviated ∷ MonthNarrow ∷ [])
    n MonthNarrow

-- how many letters its English names have at most: before the weekdays, all that a room has
abbrev pub most_at : ℕ → ℕ
most_at n = get_or (20 ∷ 3 ∷ 2 ∷ 1 ∷ 20 ∷ 3 ∷ 1 ∷ []) (n - 10) 20
