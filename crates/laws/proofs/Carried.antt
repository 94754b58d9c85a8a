-- The unit of a symbol agrees with the table's column of carried values: for every record, a value of that unit, or nothing where
-- there is none.
use Rattle.std.specs.Prelude.{Option, Some, None}
use mathlib.Core.Path.{◌≡◌, refl, ap, sym, ◌∙◌}
use lib.IntN.{ℤ}
use Rattle.meaning.specs.Reading.{value, name_carries, carried_name, carried_rule, unit_of, rule_unit}
use Rattle.meaning.specs.declared.Carried.{Carried}
use Rattle.meaning.specs.declared.Fields.{Fields}
use Rattle.meaning.specs.declared.NameList.{NameList}
use Rattle.meaning.specs.declared.NameList.TheVariants.{EraAbbreviated, EraNarrow, EraWide, QuarterWide, MonthAbbreviated, MonthWide, MonthNarrow, WdayAbbreviated, WdayWide, WdayNarrow, WdayShort, PeriodUpper, PeriodLower, PeriodDotted, PeriodLetter, NoonUpper, NoonLower, NoonDotted, NoonLetter}
use Rattle.meaning.specs.declared.ParseUnit.{ParseUnit}
use Rattle.meaning.specs.declared.Rule.{Rule}
use Rattle.meaning.specs.declared.Rule.TheVariants.{Number, SkippedNumber, LetterQuarter, SkippedName, MatchedName, Letters, Years, FixedYear, TwoDigitYear, Zone}

-- a value of this unit, or nothing
abbrev pub IsOf : Option Carried → Option ParseUnit → Type 0
IsOf c None = c ≡ None
IsOf c (Some u) = (z : ℤ) × (c ≡ value u z)

is-of : (c : Option Carried) → IsOf c (unit_of c)
is-of None = refl
is-of (Some c) = (c.value, refl)

of_is : (c : Option Carried) (unit : Option ParseUnit) → IsOf c unit → unit_of c ≡ unit
of_is c None e = ap unit_of e
of_is c (Some u) e = ap unit_of e.1

name-unit : (l : NameList) (f : Fields) → unit_of (carried_name l f) ≡ unit_of (name_carries l 0)
unfolding carried_name name_carries
name-unit EraAbbreviated f = refl
name-unit EraNarrow f = refl
name-unit EraWide f = refl
name-unit QuarterWide f = refl
name-unit MonthAbbreviated f = refl
name-unit MonthWide f = refl
name-unit MonthNarrow f = refl
name-unit WdayAbbreviated f = refl
name-unit WdayWide f = refl
name-unit WdayNarrow f = refl
name-unit WdayShort f = refl
name-unit PeriodUpper f = refl
name-unit PeriodLower f = refl
name-unit PeriodDotted f = refl
name-unit PeriodLetter f = refl
name-unit NoonUpper f = refl
name-unit NoonLower f = refl
name-unit NoonDotted f = refl
name-unit NoonLetter f = refl

rule-unit : (rule : Rule) (f : Fields) → unit_of (carried_rule rule f) ≡ rule_unit rule
unfolding carried_rule rule_unit
rule-unit (Number q least most u z) f = refl
rule-unit (SkippedNumber q least most) f = refl
rule-unit LetterQuarter f = refl
rule-unit (SkippedName l n) f = refl
rule-unit (MatchedName l) f = name-unit l f
rule-unit (Letters l n) f = name-unit l f
rule-unit (Years k) f = refl
rule-unit (FixedYear k) f = refl
rule-unit TwoDigitYear f = refl
rule-unit (Zone zone) f = refl

-- A symbol carries a value of a unit exactly where that is its unit, and nothing exactly where it has none.
pub carries : (rule : Rule) (f : Fields) (unit : Option ParseUnit)
    → (rule_unit rule ≡ unit → IsOf (carried_rule rule f) unit) × (IsOf (carried_rule rule f) unit → rule_unit rule ≡ unit)
carries rule f unit =
    (λ e. rw (rule-unit rule f ∙ e) at (is-of (carried_rule rule f)), λ h. sym (rule-unit rule f) ∙ of_is (carried_rule rule f) unit h)
