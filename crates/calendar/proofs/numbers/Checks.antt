-- How many days there are before a year, and up to a day in its year.
use mathlib.Core.Bool.{Bool}
use Prim.Native.Nat.{ℕ, ◌+◌, ◌*◌, ◌≤◌}
use native.Mathlib.Omega.{arith}
use Rattle.laws.proofs.CalendarDates.{in-the-year}
use Rattle.laws.proofs.CalendarYears.{year-short, days-on}
use Rattle.meaning.specs.Calendar.{days_on, month_length, before_month}

pub days_room : (p : ℕ) → days_on p ≤ 366 * p
days_room p = omega (arith, days-on p)

-- a day's place in its year is small
pub few_days : (l : Bool) (m d : ℕ) → 1 ≤ m → m ≤ 12 → d ≤ month_length l m → before_month l m + d ≤ 366
few_days l m d h k e = omega (arith, in-the-year l m d h k e, year-short l)
