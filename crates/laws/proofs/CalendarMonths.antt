-- The months of a year, by computed tables of the thirteen days at which one begins or the last one ends.
use mathlib.Core.Bool.{Bool, true, false}
use mathlib.Core.Path.{◌≡◌, refl}
use Prim.Native.Nat.{ℕ, suc, ◌+◌, ◌-◌, ◌≤◌, ◌<◌}
use native.Mathlib.Omega.{arith}
use Rattle.meaning.specs.Calendar.{year_length, total, month_length, before_month}
use Rattle.laws.proofs.Tests.{tabulate, tables_agree}

-- a month's end is the next one's beginning
ends : Bool → ℕ → ℕ
ends l m = before_month l (suc m) + month_length l (suc m)

pub month-after : (l : Bool) (m : ℕ) → m < 12 → before_month l (suc (suc m)) ≡ before_month l (suc m) + month_length l (suc m)
unfolding ends tabulate total before_month month_length
month-after true m h = tables_agree (λ (m : ℕ). before_month true (suc (suc m))) (ends true) 12 m refl h
month-after false m h = tables_agree (λ (m : ℕ). before_month false (suc (suc m))) (ends false) 12 m refl h

pub month-long : (l : Bool) (m : ℕ) → m < 12 → 28 ≤ month_length l (suc m)
unfolding tabulate month_length
month-long true m h = omega (arith, tables_agree (λ (m : ℕ). 28 - month_length true (suc m)) (λ (m : ℕ). 0) 12 m refl h)
month-long false m h = omega (arith, tables_agree (λ (m : ℕ). 28 - month_length false (suc m)) (λ (m : ℕ). 0) 12 m refl h)

pub year-end : (l : Bool) → before_month l 13 ≡ year_length l
unfolding total before_month
year-end true = refl
year-end false = refl
