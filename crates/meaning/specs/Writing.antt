-- Specification, "What each symbol does", column Writes, with "The field record and the numbers" and the paragraphs on yy and
-- zones; and "Splitting", what literals write. A pattern's text is that of its parts, one after the other.
use Rattle.std.specs.Prelude.{Bool, true, false, List, [], ◌∷◌, ◌++◌, map, ℕ, zero, suc, ◌+◌, ◌-◌, ◌/◌, ◌%◌, ◌^◌, eqb, ltb, ℤ, pos, negsuc, nat_abs, length, get_or, replicate, take}
use Prim.Native.Char.{code}
use Rattle.meaning.specs.Bytes.{when, both, is_digit, num, minus, plus, colon, quote}
use Rattle.meaning.specs.Names.{Book, names}
use Rattle.meaning.specs.Rules.{role_of}
use Rattle.meaning.specs.Splitting.{Content, run, quotes, quoted, unclosed, contents}
use Rattle.meaning.specs.UnitSizes.{nanos_per_second, seconds_per_hour, seconds_per_minute}
use Rattle.meaning.specs.declared.Fields.{Fields}
use Rattle.meaning.specs.declared.Group.{Group}
use Rattle.meaning.specs.declared.Group.TheVariants.{Never, NotZero, Always}
use Rattle.meaning.specs.declared.NameList.{NameList}
use Rattle.meaning.specs.declared.NameList.TheVariants.{EraAbbreviated, EraNarrow, EraWide, QuarterWide, MonthAbbreviated, MonthWide, MonthNarrow, WdayAbbreviated, WdayWide, WdayNarrow, WdayShort, PeriodUpper, PeriodLower, PeriodDotted, PeriodLetter, NoonUpper, NoonLower, NoonDotted, NoonLetter}
use Rattle.meaning.specs.declared.Pair.{Pair}
use Rattle.meaning.specs.declared.Quantity.{Quantity}
use Rattle.meaning.specs.declared.Quantity.TheVariants.{Month, Quarter, Week, Day, DayOfYear, Weekday, WeekdayFromMonday, Hour1To12, Hour0To11, Hour0To23, Hour1To24, Minute, Second, Fraction}
use Rattle.meaning.specs.declared.Role.{Role}
use Rattle.meaning.specs.declared.Role.TheVariants as role
use Rattle.meaning.specs.declared.Rule.{Rule}
use Rattle.meaning.specs.declared.Rule.TheVariants.{Number, SkippedNumber, LetterQuarter, SkippedName, MatchedName, Letters, Years, FixedYear, TwoDigitYear, Zone}

-- the whole second of the day, and its hour
abbrev pub second_of_day : Fields → ℕ
second_of_day f = f.nanos / nanos_per_second

abbrev pub hour_of : Fields → ℕ
hour_of f = second_of_day f / seconds_per_hour

-- a number, or another in the place of zero
abbrev pub in_place_of_zero : ℕ → ℕ → ℕ
in_place_of_zero k zero = k
in_place_of_zero k (suc n) = suc n

unfoldable pub quantity_of : Quantity → Fields → ℕ
quantity_of Month f = f.month
quantity_of Quarter f = (f.month - 1) / 3 + 1
quantity_of Week f = f.week
quantity_of Day f = f.day
quantity_of DayOfYear f = f.doy
quantity_of Weekday f = f.wday + 1
quantity_of WeekdayFromMonday f = (f.wday + 6) % 7 + 1
quantity_of Hour1To12 f = in_place_of_zero 12 (hour_of f % 12)
quantity_of Hour0To11 f = hour_of f % 12
quantity_of Hour0To23 f = hour_of f
quantity_of Hour1To24 f = in_place_of_zero 24 (hour_of f)
quantity_of Minute f = second_of_day f % seconds_per_hour / seconds_per_minute
quantity_of Second f = second_of_day f % seconds_per_minute
quantity_of (Fraction k) f = f.nanos % nanos_per_second / 10 ^ (9 - k)

abbrev pub is_negative : ℤ → Bool
is_negative (pos n) = false
is_negative (negsuc n) = true

-- the name of the era, of the period, and of the period with noon and midnight, by its place in the list
abbrev pub era_place : Fields → ℕ
era_place f = when (is_negative f.year) 0 1

abbrev pub period_place : ℕ → ℕ → Fields → ℕ
period_place am pm f = when (ltb (second_of_day f) 43200) am pm

abbrev pub noon_place : ℕ → ℕ → ℕ → ℕ → Fields → ℕ
noon_place am midnight pm noon f =
    when (eqb (second_of_day f) 0) midnight (when (eqb (second_of_day f) 43200) noon (period_place am pm f))

-- the place of the name that is written
unfoldable pub place_of : NameList → Fields → ℕ
place_of EraAbbreviated f = era_place f
place_of EraNarrow f = era_place f
place_of EraWide f = era_place f
place_of QuarterWide f = (f.month - 1) / 3
place_of MonthAbbreviated f = f.month - 1
place_of MonthWide f = f.month - 1
place_of MonthNarrow f = f.month - 1
place_of WdayAbbreviated f = f.wday
place_of WdayWide f = f.wday
place_of WdayNarrow f = f.wday
place_of WdayShort f = f.wday
place_of PeriodUpper f = period_place 1 3 f
place_of PeriodLower f = period_place 0 2 f
place_of PeriodDotted f = period_place 0 1 f
place_of PeriodLetter f = period_place 0 1 f
place_of NoonUpper f = noon_place 1 2 4 5 f
place_of NoonLower f = noon_place 0 2 3 5 f
place_of NoonDotted f = noon_place 0 1 2 3 f
place_of NoonLetter f = noon_place 0 1 2 3 f

unfoldable pub name_text : Book → NameList → Fields → List ℕ
unfolding names place_of
name_text book l f = get_or (names book l) (place_of l f) []

-- "`-` if negative, then num k"
unfoldable pub signed_text : ℕ → ℤ → List ℕ
signed_text k z = when (is_negative z) (minus ∷ []) [] ++ num k (nat_abs z)

-- yy. The year's decimal text has at most two bytes from -9 to 99; else its last two bytes are digits.
unfoldable pub two_digit_text : ℤ → List ℕ
unfolding signed_text
two_digit_text z =
    when (ltb (nat_abs z) (when (is_negative z) 10 100)) (signed_text 2 z) (num 2 (nat_abs z % 100))

-- two digits of a zone, behind a colon or not, where the group is there
abbrev pub colon_text : Bool → List ℕ
colon_text c = when c (colon ∷ []) []

abbrev pub is_there : Group → ℕ → Bool
is_there Never n = false
is_there NotZero n = when (eqb n 0) false true
is_there Always n = true

abbrev pub group_text : Bool → Group → ℕ → List ℕ
group_text c g n = when (is_there g n) (colon_text c ++ num 2 n) []

-- behind the sign: hh, then the groups
unfoldable pub offset_digits : Bool → Group → Group → ℕ → List ℕ
offset_digits c minutes seconds n =
    num 2 (n / seconds_per_hour) ++ group_text c minutes (n % seconds_per_hour / seconds_per_minute) ++ group_text c seconds (n % seconds_per_minute)

-- whether every digit among these bytes is zero; a colon is none
unfoldable pub all_zero : List ℕ → Bool
all_zero [] = true
all_zero (b ∷ s) = both (when (is_digit b) (eqb b (code "0")) true) (all_zero s)

-- "`-` just where the offset is below zero and a digit that is written is not zero: where every digit written for the offset is
-- zero, it is `+`"
unfoldable pub is_minus : Bool → Group → Group → ℤ → Bool
is_minus c minutes seconds z = when (all_zero (offset_digits c minutes seconds (nat_abs z))) false (is_negative z)

unfoldable pub offset_text : Bool → Group → Group → ℤ → List ℕ
offset_text c minutes seconds z = when (is_minus c minutes seconds z) minus plus ∷ offset_digits c minutes seconds (nat_abs z)

-- "X with offset 0 writes Z at any count", for exactly 0 alone
abbrev pub zone_text : Bool → Bool → Group → Group → ℤ → List ℕ
zone_text utc c minutes seconds z =
    when (both utc (eqb (nat_abs z) 0)) (code "Z" ∷ []) (offset_text c minutes seconds z)

-- what a symbol writes
unfoldable pub rule_text : Book → Rule → Fields → List ℕ
unfolding quantity_of name_text signed_text two_digit_text offset_text
rule_text book (Number q least most u z) f = num least (quantity_of q f)
rule_text book (SkippedNumber q least most) f = num least (quantity_of q f)
rule_text book LetterQuarter f = code "Q" ∷ num 1 (quantity_of Quarter f)
rule_text book (SkippedName l n) f = name_text book l f
rule_text book (MatchedName l) f = name_text book l f
rule_text book (Letters l n) f = name_text book l f
rule_text book (Years k) f = signed_text k f.year
rule_text book (FixedYear k) f = signed_text k f.year
rule_text book TwoDigitYear f = two_digit_text f.year
rule_text book (Zone zone) f = zone_text zone.utc zone.colon zone.minutes zone.seconds f.offset

-- What a part does: it stands for these bytes, of which a write may lose the last; or it is a symbol with its rule.
pub data Step : Type 0 where
  literal : List ℕ → Bool → Step
  field : Rule → Step

abbrev pub run_step : Role → ℕ → ℕ → Step
run_step role.Literal b n = literal (replicate n b) false
run_step (role.Symbol rule) b n = field rule

unfoldable pub ends_in_quote : List ℕ → Bool
ends_in_quote [] = false
ends_in_quote (b ∷ []) = eqb b quote
ends_in_quote (a ∷ b ∷ s) = ends_in_quote (b ∷ s)

-- "An unclosed one whose last element is an escaped quote loses that one."
unfoldable pub step_of : Pair → Content → Step
unfolding role_of ends_in_quote
step_of pair (run b n) = run_step (role_of pair b n) b n
step_of pair (quotes n) = literal (replicate n quote) false
step_of pair (quoted s) = literal s false
step_of pair (unclosed s) = literal s (ends_in_quote s)

unfoldable pub steps : Pair → List ℕ → List Step
unfolding step_of contents
steps pair p = map (step_of pair) (contents p)

-- what a part writes
unfoldable pub step_text : Book → Fields → Step → List ℕ
unfolding rule_text
step_text book f (literal s false) = s
step_text book f (literal s true) = take (length s - 1) s
step_text book f (field rule) = rule_text book rule f

unfoldable pub texts : Book → Fields → List Step → List ℕ
unfolding step_text
texts book f [] = []
texts book f (s ∷ ss) = step_text book f s ++ texts book f ss
