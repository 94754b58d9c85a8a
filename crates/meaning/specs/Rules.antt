-- Specification, "What each symbol does": the table of rules. A symbol has a row for some counts and one for all others. What
-- a rule writes is in Writing, what it reads in Reading.
use Rattle.std.specs.Prelude.{Bool, true, false, List, [], ◌∷◌, ℕ, eqb, leb}
use Prim.Native.Char.{code}
use Rattle.meaning.specs.Bytes.{when}
use Rattle.meaning.specs.declared.Group.{Group}
use Rattle.meaning.specs.declared.Group.TheVariants.{Never, NotZero, Always}
use Rattle.meaning.specs.declared.NameList.TheVariants.{EraAbbreviated, EraNarrow, EraWide, QuarterWide, MonthAbbreviated, MonthWide, MonthNarrow, WdayAbbreviated, WdayWide, WdayNarrow, WdayShort, PeriodUpper, PeriodLower, PeriodDotted, PeriodLetter, NoonUpper, NoonLower, NoonDotted, NoonLetter}
use Rattle.meaning.specs.declared.Pair.{Pair}
use Rattle.meaning.specs.declared.Pair.TheVariants.{Full, Date}
use Rattle.meaning.specs.declared.ParseUnit.{ParseUnit}
use Rattle.meaning.specs.declared.ParseUnit.TheVariants as unit
use Rattle.meaning.specs.declared.Quantity.{Quantity}
use Rattle.meaning.specs.declared.Quantity.TheVariants.{Month, Quarter, Week, Day, DayOfYear, Weekday, WeekdayFromMonday, Hour1To12, Hour0To11, Hour0To23, Hour1To24, Minute, Second, Fraction}
use Rattle.meaning.specs.declared.Role.{Role}
use Rattle.meaning.specs.declared.Role.TheVariants as role
use Rattle.meaning.specs.declared.Rule.{Rule}
use Rattle.meaning.specs.declared.Rule.TheVariants.{Number, SkippedNumber, LetterQuarter, SkippedName, MatchedName, Letters, Years, FixedYear, TwoDigitYear, Zone}

-- the counts of a row: just one, or all up to one
pub data Counts : Type 0 where
  just : ℕ → Counts
  up_to : ℕ → Counts

abbrev pub among : ℕ → Counts → Bool
among c (just k) = eqb c k
among c (up_to k) = leb c k

pub data Row : Type 0 where
  ◌is◌ : Counts → Rule → Row

infix 90 ◌is◌
-- the rule of all counts that have no row: always the same, or the year of that many digits
pub data Otherwise : Type 0 where
  always : Rule → Otherwise
  fixed_year : Otherwise

pub record Symbol : Type 0 where
  pub letter : ℕ
  pub rows : List Row
  pub otherwise : Otherwise

-- "num k, take k"; "num 1, greedy" is 1 2
abbrev pub number : Quantity → ℕ → ℕ → ParseUnit → Rule
number q least most u = Number q least most u 0

-- one digit or two for a count of 1, else two digits
abbrev pub one_or_two : ℕ → (ℕ → Rule) → Symbol
one_or_two letter rule = record { letter = letter; rows = just 1 is rule 1 ∷ []; otherwise = always (rule 2) }

abbrev pub era : Symbol
era =
    record {
      letter = code "G";
      rows = up_to 3 is SkippedName EraAbbreviated 2 ∷ just 5 is SkippedName EraNarrow 1 ∷ [];
      otherwise = always (MatchedName EraWide);
    }

abbrev pub year : Symbol
year =
    record {
      letter = code "y";
      rows = just 2 is TwoDigitYear ∷ just 1 is Years 1 ∷ just 3 is Years 3 ∷ just 4 is Years 4 ∷ [];
      otherwise = fixed_year;
    }

abbrev pub quarter : Symbol
quarter =
    record {
      letter = code "q";
      rows =
          just 2 is SkippedNumber Quarter 2 2 ∷ just 3 is LetterQuarter ∷ just 4 is MatchedName QuarterWide ∷ [];
      otherwise = always (SkippedNumber Quarter 1 1);
    }

abbrev pub month : Symbol
month =
    record {
      letter = code "M";
      rows =
          just 1 is number Month 1 1 unit.Month ∷ just 2 is number Month 2 2 unit.Month
          ∷ just 3 is MatchedName MonthAbbreviated ∷ just 5 is SkippedName MonthNarrow 1 ∷ [];
      otherwise = always (MatchedName MonthWide);
    }

abbrev pub week : Symbol
week = one_or_two (code "w") (λ k. SkippedNumber Week k 2)

abbrev pub day : Symbol
day = one_or_two (code "d") (λ k. number Day k 2 unit.DayOfMonth)

abbrev pub day_of_year : Symbol
day_of_year =
    record {
      letter = code "D";
      rows = just 2 is number DayOfYear 2 3 unit.DayOfYear ∷ just 3 is number DayOfYear 3 3 unit.DayOfYear ∷ [];
      otherwise = always (number DayOfYear 1 3 unit.DayOfYear);
    }

abbrev pub weekday : Symbol
weekday =
    record {
      letter = code "e";
      rows =
          just 2 is SkippedNumber Weekday 2 2 ∷ just 3 is SkippedName WdayAbbreviated 3 ∷ just 4 is MatchedName WdayWide
          ∷ just 5 is SkippedName WdayNarrow 1 ∷ just 6 is SkippedName WdayShort 2
          ∷ just 7 is SkippedNumber WeekdayFromMonday 1 1 ∷ just 8 is SkippedNumber WeekdayFromMonday 2 2 ∷ [];
      otherwise = always (SkippedNumber Weekday 1 1);
    }

abbrev pub period : Symbol
period =
    record {
      letter = code "a";
      rows = up_to 2 is Letters PeriodUpper 2 ∷ just 4 is Letters PeriodDotted 4 ∷ just 5 is Letters PeriodLetter 1 ∷ [];
      otherwise = always (Letters PeriodLower 2);
    }

abbrev pub noon : Symbol
noon =
    record {
      letter = code "b";
      rows = up_to 2 is MatchedName NoonUpper ∷ just 4 is MatchedName NoonDotted ∷ just 5 is MatchedName NoonLetter ∷ [];
      otherwise = always (MatchedName NoonLower);
    }

-- "two bytes 12 give 0", "24 gives 0"
abbrev pub hour1_to12 : Symbol
hour1_to12 = one_or_two (code "h") (λ k. Number Hour1To12 k 2 unit.PeriodHour 12)

abbrev pub hour0_to11 : Symbol
hour0_to11 = one_or_two (code "K") (λ k. number Hour0To11 k 2 unit.PeriodHour)

abbrev pub hour0_to23 : Symbol
hour0_to23 = one_or_two (code "H") (λ k. number Hour0To23 k 2 unit.Hour)

abbrev pub hour1_to24 : Symbol
hour1_to24 = one_or_two (code "k") (λ k. Number Hour1To24 k 2 unit.Hour 24)

abbrev pub minute : Symbol
minute = one_or_two (code "m") (λ k. number Minute k 2 unit.Minute)

abbrev pub second : Symbol
second = one_or_two (code "s") (λ k. number Second k 2 unit.Second)

-- "that many digits, cut"
abbrev pub fraction : ℕ → ParseUnit → Rule
fraction k u = number (Fraction k) k k u

abbrev pub nanos : Symbol
nanos =
    record {
      letter = code "n";
      rows =
          just 1 is fraction 1 unit.Decis ∷ just 2 is fraction 2 unit.Centis ∷ just 4 is fraction 6 unit.Micros
          ∷ just 5 is fraction 9 unit.Nanos ∷ [];
      otherwise = always (fraction 3 unit.Millis);
    }

-- the rule of a zone of this form
abbrev pub zoned : Bool → Bool → Group → Group → Rule
zoned utc c minutes seconds = Zone (record { utc = utc; colon = c; minutes = minutes; seconds = seconds })

-- "1 mm if not zero; 2 mm; 4 mm and ss if not zero; 5 :mm and :ss if not zero; else :mm"
abbrev pub zone : ℕ → Bool → Symbol
zone letter utc =
    record {
      letter = letter;
      rows =
          just 1 is zoned utc false NotZero Never ∷ just 2 is zoned utc false Always Never
          ∷ just 4 is zoned utc false Always NotZero ∷ just 5 is zoned utc true Always NotZero ∷ [];
      otherwise = always (zoned utc true Always Never);
    }

abbrev pub date_symbols : List Symbol
date_symbols = era ∷ year ∷ quarter ∷ month ∷ week ∷ day ∷ day_of_year ∷ weekday ∷ []

abbrev pub time_symbols : List Symbol
time_symbols =
    period ∷ noon ∷ hour1_to12 ∷ hour0_to23 ∷ hour0_to11 ∷ hour1_to24 ∷ minute ∷ second ∷ nanos ∷ zone (code "X") true
    ∷ zone (code "x") false ∷ []

unfoldable pub otherwise_rule : ℕ → Otherwise → Rule
otherwise_rule c (always rule) = rule
otherwise_rule c fixed_year = FixedYear c

-- the rule of the first row that has the count
unfoldable pub pick : ℕ → List Row → Otherwise → Rule
unfolding otherwise_rule
pick c [] o = otherwise_rule c o
pick c (counts is rule ∷ rows) o = when (among c counts) rule (pick c rows o)

unfoldable pub rule_of : Symbol → ℕ → Rule
unfolding pick
rule_of symbol c = pick c symbol.rows symbol.otherwise

-- what c equal bytes b do, where these are the symbols
unfoldable pub role_among : List Symbol → ℕ → ℕ → Role
unfolding rule_of
role_among [] b c = role.Literal
role_among (symbol ∷ symbols) b c = when (eqb b symbol.letter) (role.Symbol (rule_of symbol c)) (role_among symbols b c)

unfoldable pub date_role : ℕ → ℕ → Role
unfolding role_among
date_role b c = role_among date_symbols b c

unfoldable pub time_role : ℕ → ℕ → Role
unfolding role_among
time_role b c = role_among time_symbols b c

abbrev pub or_else : Role → Role → Role
or_else role.Literal r = r
or_else (role.Symbol rule) r = role.Symbol rule

-- "In the Date pair, time symbols are plain literals."
unfoldable pub role_of : Pair → ℕ → ℕ → Role
unfolding date_role time_role
role_of Full b c = or_else (date_role b c) (time_role b c)
role_of Date b c = date_role b c
