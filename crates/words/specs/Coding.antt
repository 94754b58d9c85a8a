-- Request [11]: the rule that a word holds. Every number stands for one, so that every word has a rule.
use Rattle.std.specs.Prelude.{Bool, true, ℕ, eqb}
use Rattle.meaning.specs.Bytes.{when, both}
use Rattle.meaning.specs.declared.Group.{Group}
use Rattle.meaning.specs.declared.Group.TheVariants.{Never, NotZero, Always}
use Rattle.meaning.specs.declared.NameList.{NameList}
use Rattle.meaning.specs.declared.NameList.TheVariants.{EraAbbreviated, EraNarrow, EraWide, QuarterWide, MonthAbbreviated, MonthWide, MonthNarrow, WdayAbbreviated, WdayWide, WdayNarrow, WdayShort, PeriodUpper, PeriodLower, PeriodDotted, PeriodLetter, NoonUpper, NoonLower, NoonDotted, NoonLetter}
use Rattle.meaning.specs.declared.ParseUnit.{ParseUnit}
use Rattle.meaning.specs.declared.ParseUnit.TheVariants as units
use Rattle.meaning.specs.declared.Quantity.{Quantity}
use Rattle.meaning.specs.declared.Quantity.TheVariants as quantities
use Rattle.meaning.specs.declared.Rule.{Rule}
use Rattle.meaning.specs.declared.Rule.TheVariants.{Number, SkippedNumber, LetterQuarter, SkippedName, MatchedName, Letters, TwoDigitYear, Zone}
use Rattle.meaning.specs.declared.Zone as zone
use Rattle.words.specs.Fields.{kind, item, least, most, unit, zero, size, utc, colon, minutes, seconds}

-- what a number is of; the last, so many digits of the second's fraction
unfoldable pub quantity_in : ℕ → ℕ → Quantity
quantity_in n digits =
    when (eqb n 0) quantities.Month
    (when (eqb n 1) quantities.Quarter
    (when (eqb n 2) quantities.Week
    (when (eqb n 3) quantities.Day
    (when (eqb n 4) quantities.DayOfYear
    (when (eqb n 5) quantities.Weekday
    (when (eqb n 6) quantities.WeekdayFromMonday
    (when (eqb n 7) quantities.Hour1To12
    (when (eqb n 8) quantities.Hour0To11
    (when (eqb n 9) quantities.Hour0To23
    (when (eqb n 10) quantities.Hour1To24
    (when (eqb n 11) quantities.Minute
    (when (eqb n 12) quantities.Second
    (quantities.Fraction digits)))))))))))))

unfoldable pub list_in : ℕ → NameList
list_in n =
    when (eqb n 0) EraAbbreviated
    (when (eqb n 1) EraNarrow
    (when (eqb n 2) EraWide
    (when (eqb n 3) QuarterWide
    (when (eqb n 4) MonthAbbreviated
    (when (eqb n 5) MonthWide
    (when (eqb n 6) MonthNarrow
    (when (eqb n 7) WdayAbbreviated
    (when (eqb n 8) WdayWide
    (when (eqb n 9) WdayNarrow
    (when (eqb n 10) WdayShort
    (when (eqb n 11) PeriodUpper
    (when (eqb n 12) PeriodLower
    (when (eqb n 13) PeriodDotted
    (when (eqb n 14) PeriodLetter
    (when (eqb n 15) NoonUpper
    (when (eqb n 16) NoonLower
    (when (eqb n 17) NoonDotted
    NoonLetter)))))))))))))))))

-- by the numbers of `unit_number`
unfoldable pub unit_in : ℕ → ParseUnit
unit_in n =
    when (eqb n 0) units.Year
    (when (eqb n 1) units.Month
    (when (eqb n 2) units.DayOfMonth
    (when (eqb n 3) units.DayOfYear
    (when (eqb n 4) units.Hour
    (when (eqb n 5) units.Period
    (when (eqb n 6) units.PeriodHour
    (when (eqb n 7) units.Minute
    (when (eqb n 8) units.Second
    (when (eqb n 9) units.Decis
    (when (eqb n 10) units.Centis
    (when (eqb n 11) units.Millis
    (when (eqb n 12) units.Micros
    (when (eqb n 13) units.Nanos
    units.Offset)))))))))))))

abbrev pub group_in : ℕ → Group
group_in n = when (eqb n 0) Never (when (eqb n 1) NotZero Always)

abbrev pub zone_in : ℕ → zone.Zone
zone_in w = record { utc = utc w; colon = colon w; minutes = group_in (minutes w); seconds = group_in (seconds w) }

-- the rule of each kind; years have words of their own
unfoldable pub rule_of_kind : ℕ → ℕ → Rule
unfolding quantity_in list_in unit_in
rule_of_kind k w =
    when (eqb k 0) (Number (quantity_in (item w) (least w)) (least w) (most w) (unit_in (unit w)) (zero w))
    (when (eqb k 1) (SkippedNumber (quantity_in (item w) (least w)) (least w) (most w))
    (when (eqb k 2) LetterQuarter
    (when (eqb k 3) (SkippedName (list_in (item w)) (size w))
    (when (eqb k 4) (MatchedName (list_in (item w)))
    (when (eqb k 5) (Letters (list_in (item w)) (size w))
    (when (eqb k 6) TwoDigitYear
    (Zone (zone_in w))))))))

abbrev pub rule_in : ℕ → Rule
rule_in w = rule_of_kind (kind w) w

-- whether the rule is that of a name that is matched by its letters: of the months, abbreviated or wide, or of the wide weekdays
abbrev pub is_spelled_list : ℕ → Bool
is_spelled_list n = when (eqb n 4) true (when (eqb n 5) true (eqb n 8))

abbrev pub is_spelled : ℕ → Bool
is_spelled w = both (eqb (kind w) 4) (is_spelled_list (item w))

abbrev pub is_weekday : ℕ → Bool
is_weekday w = eqb (item w) 8

-- the number of the first of its names, and how many letters they have at most
abbrev pub first_spelled : ℕ → ℕ
first_spelled w = when (is_weekday w) 12 0

abbrev pub most_letters : ℕ → ℕ
most_letters w = when (eqb (item w) 4) 3 9
