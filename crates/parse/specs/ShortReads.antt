-- The digits of the numbers that patterns have most, at a count of one or two.
use Rattle.std.specs.Prelude.{List, [], ◌∷◌, ℕ, ◌+◌, ◌-◌, ◌*◌, eqb, drop, Option, Some, None}
use Rattle.meaning.specs.Bytes.{when, is_digit}
use Rattle.meaning.specs.Reading.{most_read}
use Rattle.meaning.specs.declared.Edition.{Edition}
use Rattle.meaning.specs.declared.ParseUnit.{ParseUnit}
use Rattle.meaning.specs.declared.ParseUnit.TheVariants.{DayOfMonth}
use Rattle.rules.specs.ShortRules.{short_quantity, short_unit, short_most}
use Rattle.rules.specs.declared.short.Short.{Short}
use Rattle.rules.specs.declared.step.Step.{Step}
use Rattle.rules.specs.declared.step.Step.TheVariants as step
use Rattle.parse.specs.declared.short.Digits.{Digits}

-- one digit or two in front of a text: the number, and the bytes that it takes
abbrev pub digit_first : List ℕ → Option ℕ
digit_first [] = None
digit_first (b ∷ s) = when (is_digit b) (Some (b - 48)) None

abbrev pub found : ℕ → ℕ → Option Digits
found n k = Some (record { size = n; taken = k })

abbrev pub second_by : ℕ → ℕ → Option ℕ → Option Digits
second_by a least (Some b) = found (a * 10 + b) 2
second_by a least None = when (eqb least 1) (found a 1) None

abbrev pub second_digits : ℕ → ℕ → List ℕ → Option Digits
second_digits a least s = second_by a least (digit_first s)

abbrev pub digits_by : ℕ → ℕ → List ℕ → Option ℕ → Option Digits
digits_by least most s (Some a) = when (eqb most 1) (found a 1) (second_digits a least s)
digits_by least most s None = None

unfoldable pub short_digits : ℕ → ℕ → List ℕ → Option Digits
short_digits least most s = digits_by least most (drop 1 s) (digit_first s)

-- those of a number that patterns have most; that they are what its rule reads is the law `digits-read` of proofs/short/Taken
abbrev pub digits_of : Edition → Short → ℕ → List ℕ → Option Digits
digits_of edition short c s =
    short_digits c (most_read edition (short_quantity short) (short_most short c)) s

-- those of a step, and the unit that they carry, where the day stands for none; that they are what it reads is the law
-- `quick-read` of proofs/step/StepReads
abbrev pub quick_digits : Edition → Step → List ℕ → Option Digits
quick_digits edition (step.Times b n) s = None
quick_digits edition (step.Quoted from to) s = None
quick_digits edition (step.Open from) s = None
quick_digits edition (step.Short number c) s = digits_of edition number c s
quick_digits edition (step.Year c) s = None
quick_digits edition step.MonthAbbreviated s = None
quick_digits edition step.MonthWide s = None
quick_digits edition step.WdayWide s = None
quick_digits edition (step.Run role b n) s = None

abbrev pub quick_unit : Step → ParseUnit
quick_unit (step.Times b n) = DayOfMonth
quick_unit (step.Quoted from to) = DayOfMonth
quick_unit (step.Open from) = DayOfMonth
quick_unit (step.Short number c) = short_unit number
quick_unit (step.Year c) = DayOfMonth
quick_unit step.MonthAbbreviated = DayOfMonth
quick_unit step.MonthWide = DayOfMonth
quick_unit step.WdayWide = DayOfMonth
quick_unit (step.Run role b n) = DayOfMonth
