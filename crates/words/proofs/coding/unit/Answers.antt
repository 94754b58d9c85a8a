-- Each unit is found by its number; a number that no unit has gives the last one.
use borrow.Author.Tests.{ne_eqb}
use mathlib.Core.Path.{◌≡◌, refl, sym, ◌∙◌}
use native.Mathlib.Omega.{arith}
use Prim.Native.Nat.{ℕ, ◌/◌, ◌%◌, ◌<◌}
use Rattle.std.specs.Prelude.{Result, Ok, Err, MatchResult}
use Rattle.std.specs.Result.{result_unwrap_or}
use Rattle.meaning.specs.Whole.{unit_number}
use Rattle.meaning.specs.declared.ParseUnit.{ParseUnit}
use Rattle.meaning.specs.declared.ParseUnit.TheVariants as units
use Rattle.meaning.specs.declared.unit_numbers.NoUnit.{NoUnit}
use Rattle.words.specs.Coding.{unit_in}
use Rattle.words.proofs.coding.unit.Goals as goal

found-again : (u : ParseUnit) → u ≡ unit_in (unit_number u)
unfolding unit_in
found-again units.Year = refl
found-again units.Month = refl
found-again units.DayOfMonth = refl
found-again units.DayOfYear = refl
found-again units.Hour = refl
found-again units.Period = refl
found-again units.PeriodHour = refl
found-again units.Minute = refl
found-again units.Second = refl
found-again units.Decis = refl
found-again units.Centis = refl
found-again units.Millis = refl
found-again units.Micros = refl
found-again units.Nanos = refl
found-again units.Offset = refl

unit-or-last : (r : Result ParseUnit NoUnit) (n : ℕ) → MatchResult r (λ u. unit_number u ≡ n) (λ none. 14 < n)
    → result_unwrap_or r units.Offset ≡ unit_in n
unfolding unit_in
unit-or-last (Ok u) n e = rw (sym e) (found-again u)
unit-or-last (Err none) n h =
    simp (
      ne_eqb n 0 (omega arith),
      ne_eqb n 1 (omega arith),
      ne_eqb n 2 (omega arith),
      ne_eqb n 3 (omega arith),
      ne_eqb n 4 (omega arith),
      ne_eqb n 5 (omega arith),
      ne_eqb n 6 (omega arith),
      ne_eqb n 7 (omega arith),
      ne_eqb n 8 (omega arith),
      ne_eqb n 9 (omega arith),
      ne_eqb n 10 (omega arith),
      ne_eqb n 11 (omega arith),
      ne_eqb n 12 (omega arith),
      ne_eqb n 13 (omega arith),
    )

pub returns : goal.returns
returns c = c.unwrap_or.ensures ∙ unit-or-last c.try_from.result (c.args.w / 4194304 % 16) c.try_from.ensures
