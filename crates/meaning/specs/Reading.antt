-- Specification, "What each symbol does", column Reads, with the carried values in brackets and the paragraphs on yy and
-- zones; "Splitting", what a read of literals skips or, where it is strict, compares; and "The second edition". The steps are
-- those of Readers. What takes a number is defined with any number reader, `..With`, and then with the specification's.
use Rattle.std.specs.Prelude.{Option, Some, None, Bool, true, false, List, [], ◌∷◌, ℕ, suc, ◌+◌, ◌*◌, ◌-◌, ◌/◌, ◌%◌, eqb, ltb, ℤ, pos, neg_ℤ, nat_abs, ◌+ℤ◌, length, drop}
use Rattle.meaning.specs.Bytes.{when, is_digit, digit_at, minus}
use Rattle.meaning.specs.Names.{Book, names}
use Rattle.meaning.specs.Readers.{Reader, ◌>>=◌, ◌>>◌, done, skip, same, NumberReader, take_number, take_count_with, take_year_with, reach, if_digit, match_name, letters, ZoneSign, utc, ahead, behind_utc, zone_sign}
use Rattle.meaning.specs.UnitSizes.{seconds_per_hour, seconds_per_minute}
use Rattle.meaning.specs.Writing.{quantity_of, second_of_day, is_negative, Step, literal, field}
use Rattle.meaning.specs.declared.Carried.{Carried}
use Rattle.meaning.specs.declared.Choices.{Choices}
use Rattle.meaning.specs.declared.Edition.{Edition}
use Rattle.meaning.specs.declared.Edition.TheVariants as edition
use Rattle.meaning.specs.declared.Fields.{Fields}
use Rattle.meaning.specs.declared.Group.{Group}
use Rattle.meaning.specs.declared.Group.TheVariants.{Never, NotZero, Always}
use Rattle.meaning.specs.declared.NameList.{NameList}
use Rattle.meaning.specs.declared.NameList.TheVariants.{EraAbbreviated, EraNarrow, EraWide, QuarterWide, MonthAbbreviated, MonthWide, MonthNarrow, WdayAbbreviated, WdayWide, WdayNarrow, WdayShort, PeriodUpper, PeriodLower, PeriodDotted, PeriodLetter, NoonUpper, NoonLower, NoonDotted, NoonLetter}
use Rattle.meaning.specs.declared.ParseUnit.{ParseUnit}
use Rattle.meaning.specs.declared.ParseUnit.TheVariants as unit
use Rattle.meaning.specs.declared.Quantity.{Quantity}
use Rattle.meaning.specs.declared.Quantity.TheVariants.{Month, Quarter, Week, Day, DayOfYear, Weekday, WeekdayFromMonday, Hour1To12, Hour0To11, Hour0To23, Hour1To24, Minute, Second, Fraction}
use Rattle.meaning.specs.declared.Rule.{Rule}
use Rattle.meaning.specs.declared.Rule.TheVariants.{Number, SkippedNumber, LetterQuarter, SkippedName, MatchedName, Letters, Years, FixedYear, TwoDigitYear, Zone}

-- a value of a unit
abbrev pub value : ParseUnit → ℤ → Option Carried
value u z = Some (record { unit = u; value = z })

-- what the name at a place of its list carries: the month; the period, 1 from the first of its afternoon names on
abbrev pub month_at : ℕ → Option Carried
month_at i = value unit.Month (pos (suc i))

abbrev pub period_at : ℕ → ℕ → Option Carried
period_at afternoon i = value unit.Period (pos (when (ltb i afternoon) 0 1))

unfoldable pub name_carries : NameList → ℕ → Option Carried
name_carries EraAbbreviated i = None
name_carries EraNarrow i = None
name_carries EraWide i = None
name_carries QuarterWide i = None
name_carries MonthAbbreviated i = month_at i
name_carries MonthWide i = month_at i
name_carries MonthNarrow i = None
name_carries WdayAbbreviated i = None
name_carries WdayWide i = None
name_carries WdayNarrow i = None
name_carries WdayShort i = None
name_carries PeriodUpper i = period_at 2 i
name_carries PeriodLower i = period_at 2 i
name_carries PeriodDotted i = period_at 1 i
name_carries PeriodLetter i = period_at 1 i
name_carries NoonUpper i = period_at 3 i
name_carries NoonLower i = period_at 3 i
name_carries NoonDotted i = period_at 2 i
name_carries NoonLetter i = period_at 2 i

-- a minus in front, and the digits that follow
abbrev pub minus_first : List ℕ → ℕ
minus_first [] = 0
minus_first (b ∷ s) = when (eqb b minus) 1 0

unfoldable pub digit_run : List ℕ → ℕ
digit_run [] = 0
digit_run (b ∷ s) = when (is_digit b) (suc (digit_run s)) 0

abbrev pub year_length : List ℕ → ℕ
year_length s = minus_first s + digit_run (drop (minus_first s) s)

abbrev pub year : ℤ → Option Carried
year z = value unit.Year z

-- what yy "adds": "current year / 1000 * 1000"
abbrev pub millennium : ℕ → ℕ
millennium current = current / 1000 * 1000

-- of the hundred years from `first` on the one with these last two digits
abbrev pub year_from : ℕ → ℕ → ℕ
year_from first digits = first + (digits + 100 - first % 100) % 100

-- the year that two digits stand for. The second edition: "the one year from current year - 80 to current year + 19".
unfoldable pub two_digits_mean : Edition → ℕ → ℤ → ℤ
two_digits_mean edition.First current z = z +ℤ pos (millennium current)
two_digits_mean edition.Second current z = pos (year_from (current - 80) (nat_abs z))

-- how many bytes a number is read from at most. The second edition: "single M is read as d is", from two.
unfoldable pub most_read : Edition → Quantity → ℕ → ℕ
most_read edition.First q most = most
most_read edition.Second Month most = 2
most_read edition.Second Quarter most = most
most_read edition.Second Week most = most
most_read edition.Second Day most = most
most_read edition.Second DayOfYear most = most
most_read edition.Second Weekday most = most
most_read edition.Second WeekdayFromMonday most = most
most_read edition.Second Hour1To12 most = most
most_read edition.Second Hour0To11 most = most
most_read edition.Second Hour0To23 most = most
most_read edition.Second Hour1To24 most = most
most_read edition.Second Minute most = most
most_read edition.Second Second most = most
most_read edition.Second (Fraction k) most = most

abbrev pub colon_length : Bool → ℕ
colon_length true = 1
colon_length false = 0

abbrev pub zone_behind : Reader ℕ → ZoneSign → Reader ℤ
zone_behind size utc = done (pos 0)
zone_behind size ahead = size >>= λ n. done (pos n)
zone_behind size behind_utc = size >>= λ n. done (neg_ℤ (pos n))

-- a number that stands for zero
abbrev pub zero_for : ℕ → ℕ → ℕ
zero_for z n = when (eqb n z) 0 n

-- so many bytes that carry nothing
abbrev pub passed : ℕ → Reader (Option Carried)
passed k = skip k >> done None

-- a literal: "skipped unseen", or by a strict reading compared with what the part stands for, an escaped quote being a quote
abbrev pub literal_read : Bool → List ℕ → Reader (Option Carried)
literal_read true w = same w >> done None
literal_read false w = passed (length w)

-- a name, and so many bytes that are one
abbrev pub matched_name : Book → NameList → Reader (Option Carried)
matched_name book l = match_name (names book l) >>= λ i. done (name_carries l i)

abbrev pub matched_letters : Book → NameList → ℕ → Reader (Option Carried)
matched_letters book l n = letters n (names book l) >>= λ i. done (name_carries l i)

-- with any number reader

module _ (number : NumberReader) where
  -- so many bytes of a year
  abbrev pub taken_year_with : ℕ → Reader (Option Carried)
  taken_year_with k = take_year_with number k >>= λ z. done (year z)

  -- yy "reads 3 bytes at `-`, else 2"
  abbrev pub two_digit_year_with : Edition → ℕ → Reader (Option Carried)
  two_digit_year_with edition current s =
      when (eqb (minus_first s) 1) (taken_year_with 3 s)
      ((take_year_with number 2 >>= λ z. done (year (two_digits_mean edition current z))) s)

  -- a group of a zone. Where it may be missing it is there if its first digit is.
  abbrev pub take_group_with : Bool → Reader ℕ
  take_group_with c = do
    skip (colon_length c)
    take_count_with number 2

  abbrev pub zone_group_with : Bool → Group → Reader ℕ
  zone_group_with c Never = done 0
  zone_group_with c NotZero = if_digit (colon_length c) (take_group_with c) (done 0)
  zone_group_with c Always = take_group_with c

  unfoldable pub zone_size_with : Bool → Group → Group → Reader ℕ
  unfolding digit_at
  zone_size_with c minutes seconds = do
    hh ← take_count_with number 2
    mm ← zone_group_with c minutes
    ss ← zone_group_with c seconds
    done (hh * seconds_per_hour + mm * seconds_per_minute + ss)

  abbrev pub taken_zone_with : Bool → Bool → Group → Group → Reader (Option Carried)
  taken_zone_with z c minutes seconds =
      zone_sign z >>= zone_behind (zone_size_with c minutes seconds) >>= λ o. done (value unit.Offset o)

  -- so many bytes of a number, as the value of a unit
  abbrev pub taken_unit_with : ParseUnit → ℕ → ℕ → Reader (Option Carried)
  taken_unit_with u z k = take_count_with number k >>= λ n. done (value u (pos (zero_for z n)))

  -- what a symbol reads
  unfoldable pub read_rule_with : Edition → Book → ℕ → Rule → Reader (Option Carried)
  unfolding reach skip name_carries names match_name letters digit_run zone_size_with zone_sign most_read two_digits_mean
  read_rule_with edition book current (Number q least most u z) s = taken_unit_with u z (reach (most_read edition q most - least) least s) s
  read_rule_with edition book current (SkippedNumber q least most) s = passed (reach (most - least) least s) s
  read_rule_with edition book current LetterQuarter s = passed 2 s
  read_rule_with edition book current (SkippedName l n) s = passed n s
  read_rule_with edition book current (MatchedName l) s = matched_name book l s
  read_rule_with edition book current (Letters l n) s = matched_letters book l n s
  read_rule_with edition book current (Years k) s = taken_year_with (year_length s) s
  read_rule_with edition book current (FixedYear k) s = taken_year_with (minus_first s + k) s
  read_rule_with edition book current TwoDigitYear s = two_digit_year_with edition current s
  read_rule_with edition book current (Zone zone) s = taken_zone_with zone.utc zone.colon zone.minutes zone.seconds s

  -- what a part reads
  unfoldable pub read_step_with : Choices → Book → ℕ → Step → Reader (Option Carried)
  unfolding read_rule_with skip same
  read_step_with choices book current (literal w lost) s = literal_read choices.strict w s
  read_step_with choices book current (field rule) s = read_rule_with choices.edition book current rule s

-- with the specification's number reader

abbrev pub taken_year : ℕ → Reader (Option Carried)
taken_year = taken_year_with take_number

abbrev pub two_digit_year : Edition → ℕ → Reader (Option Carried)
two_digit_year = two_digit_year_with take_number

abbrev pub take_group : Bool → Reader ℕ
take_group = take_group_with take_number

abbrev pub zone_group : Bool → Group → Reader ℕ
zone_group = zone_group_with take_number

abbrev pub zone_size : Bool → Group → Group → Reader ℕ
zone_size = zone_size_with take_number

abbrev pub taken_zone : Bool → Bool → Group → Group → Reader (Option Carried)
taken_zone = taken_zone_with take_number

abbrev pub taken_unit : ParseUnit → ℕ → ℕ → Reader (Option Carried)
taken_unit = taken_unit_with take_number

unfoldable pub read_rule : Edition → Book → ℕ → Rule → Reader (Option Carried)
unfolding read_rule_with
read_rule = read_rule_with take_number

unfoldable pub read_step : Choices → Book → ℕ → Step → Reader (Option Carried)
unfolding read_step_with read_rule
read_step = read_step_with take_number

-- "h, K [hour mod 12], H, k [hour]": what a number carries is what this quantity writes
abbrev pub carried_as : Quantity → Quantity
carried_as Month = Month
carried_as Quarter = Quarter
carried_as Week = Week
carried_as Day = Day
carried_as DayOfYear = DayOfYear
carried_as Weekday = Weekday
carried_as WeekdayFromMonday = WeekdayFromMonday
carried_as Hour1To12 = Hour0To11
carried_as Hour0To11 = Hour0To11
carried_as Hour0To23 = Hour0To23
carried_as Hour1To24 = Hour0To23
carried_as Minute = Minute
carried_as Second = Second
carried_as (Fraction k) = Fraction k

abbrev pub period_of : Fields → Option Carried
period_of f = value unit.Period (pos (second_of_day f / 43200))

abbrev pub month_of : Fields → Option Carried
month_of f = value unit.Month (pos f.month)

unfoldable pub carried_name : NameList → Fields → Option Carried
carried_name EraAbbreviated f = None
carried_name EraNarrow f = None
carried_name EraWide f = None
carried_name QuarterWide f = None
carried_name MonthAbbreviated f = month_of f
carried_name MonthWide f = month_of f
carried_name MonthNarrow f = None
carried_name WdayAbbreviated f = None
carried_name WdayWide f = None
carried_name WdayNarrow f = None
carried_name WdayShort f = None
carried_name PeriodUpper f = period_of f
carried_name PeriodLower f = period_of f
carried_name PeriodDotted f = period_of f
carried_name PeriodLetter f = period_of f
carried_name NoonUpper f = period_of f
carried_name NoonLower f = period_of f
carried_name NoonDotted f = period_of f
carried_name NoonLetter f = period_of f

-- "cut to minutes toward zero unless c is 4 or 5": a zone of those counts has seconds
abbrev pub cut_to_minutes : ℤ → ℤ
cut_to_minutes z = when (is_negative z) (neg_ℤ (pos (nat_abs z / seconds_per_minute * seconds_per_minute))) (pos (nat_abs z / seconds_per_minute * seconds_per_minute))

abbrev pub carried_offset : Group → ℤ → ℤ
carried_offset Never z = cut_to_minutes z
carried_offset NotZero z = z
carried_offset Always z = z

-- the value that a symbol carries, in brackets in the table
unfoldable pub carried_rule : Rule → Fields → Option Carried
unfolding quantity_of carried_name
carried_rule (Number q least most u z) f = value u (pos (quantity_of (carried_as q) f))
carried_rule (SkippedNumber q least most) f = None
carried_rule LetterQuarter f = None
carried_rule (SkippedName l n) f = None
carried_rule (MatchedName l) f = carried_name l f
carried_rule (Letters l n) f = carried_name l f
carried_rule (Years k) f = year f.year
carried_rule (FixedYear k) f = year f.year
carried_rule TwoDigitYear f = year f.year
carried_rule (Zone zone) f = value unit.Offset (carried_offset zone.seconds f.offset)

unfoldable pub carried_step : Step → Fields → Option Carried
unfolding carried_rule
carried_step (literal w lost) f = None
carried_step (field rule) f = carried_rule rule f

-- the unit of what is carried
abbrev pub unit_of : Option Carried → Option ParseUnit
unit_of None = None
unit_of (Some c) = Some c.unit

-- the unit that a symbol carries, whatever the record: of names it is the first one's. `carries` in laws holds it to carried_rule.
unfoldable pub rule_unit : Rule → Option ParseUnit
unfolding name_carries
rule_unit (Number q least most u z) = Some u
rule_unit (SkippedNumber q least most) = None
rule_unit LetterQuarter = None
rule_unit (SkippedName l n) = None
rule_unit (MatchedName l) = unit_of (name_carries l 0)
rule_unit (Letters l n) = unit_of (name_carries l 0)
rule_unit (Years k) = Some unit.Year
rule_unit (FixedYear k) = Some unit.Year
rule_unit TwoDigitYear = Some unit.Year
rule_unit (Zone zone) = Some unit.Offset

-- what a part is: it stands for itself, or it is a symbol that carries a unit or nothing
pub data StepUnit : Type 0 where
  itself : StepUnit
  symbol : Option ParseUnit → StepUnit

unfoldable pub step_unit : Step → StepUnit
unfolding rule_unit
step_unit (literal w lost) = itself
step_unit (field rule) = symbol (rule_unit rule)
