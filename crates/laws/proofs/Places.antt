-- The name that a record asks for is there: its place is below its list's length, for English and an allowed record.
use Prim.Native.Nat.{ℕ, ◌<◌}
use native.Mathlib.Omega.{arith}
use lib.Dec.{eqb, ltb}
use lib.ListN.{length}
use Rattle.meaning.specs.Bytes.{bytes}
use Rattle.meaning.specs.Names.{english, names}
use Rattle.meaning.specs.Writing.{is_negative, era_place, period_place, noon_place, place_of, second_of_day}
use Rattle.meaning.specs.declared.Fields.{Fields}
use Rattle.meaning.specs.declared.NameList.{NameList}
use Rattle.meaning.specs.declared.NameList.TheVariants.{EraAbbreviated, EraNarrow, EraWide, QuarterWide, MonthAbbreviated, MonthWide, MonthNarrow, WdayAbbreviated, WdayWide, WdayNarrow, WdayShort, PeriodUpper, PeriodLower, PeriodDotted, PeriodLetter, NoonUpper, NoonLower, NoonDotted, NoonLetter}
use Rattle.laws.proofs.Fields.{Allowed}
use Rattle.laws.proofs.Tests.{when-is}

era-below : (f : Fields) → era_place f < 2
era-below f = when-is (λ (i : ℕ). i < 2) (is_negative f.year) (λ _. omega arith) (λ _. omega arith)

period-below : (am pm n : ℕ) → am < n → pm < n → (f : Fields) → period_place am pm f < n
period-below am pm n h k f = when-is (λ (i : ℕ). i < n) (ltb (second_of_day f) 43200) (λ _. h) (λ _. k)

noon-below : (am midnight pm noon n : ℕ) → am < n → midnight < n → pm < n → noon < n → (f : Fields) → noon_place am midnight pm noon f < n
noon-below am midnight pm noon n h k l m f =
    when-is (λ (i : ℕ). i < n) (eqb (second_of_day f) 0) (λ _. k)
    (λ _. when-is (λ (i : ℕ). i < n) (eqb (second_of_day f) 43200) (λ _. m) (λ _. period-below am pm n h l f))

pub place-there : (l : NameList) (f : Fields) → Allowed f → place_of l f < length (names english l)
unfolding place_of names english bytes
place-there EraAbbreviated f h = era-below f
place-there EraNarrow f h = era-below f
place-there EraWide f h = era-below f
place-there QuarterWide f h = omega arith
place-there MonthAbbreviated f h = omega arith
place-there MonthWide f h = omega arith
place-there MonthNarrow f h = omega arith
place-there WdayAbbreviated f h = omega arith
place-there WdayWide f h = omega arith
place-there WdayNarrow f h = omega arith
place-there WdayShort f h = omega arith
place-there PeriodUpper f h = period-below 1 3 4 (omega arith) (omega arith) f
place-there PeriodLower f h = period-below 0 2 4 (omega arith) (omega arith) f
place-there PeriodDotted f h = period-below 0 1 2 (omega arith) (omega arith) f
place-there PeriodLetter f h = period-below 0 1 2 (omega arith) (omega arith) f
place-there NoonUpper f h = noon-below 1 2 4 5 6 (omega arith) (omega arith) (omega arith) (omega arith) f
place-there NoonLower f h = noon-below 0 2 3 5 6 (omega arith) (omega arith) (omega arith) (omega arith) f
place-there NoonDotted f h = noon-below 0 1 2 3 4 (omega arith) (omega arith) (omega arith) (omega arith) f
place-there NoonLetter f h = noon-below 0 1 2 3 4 (omega arith) (omega arith) (omega arith) (omega arith) f
