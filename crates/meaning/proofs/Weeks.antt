-- Weeks that anyone can look up, each with its Thursday's year and how many days of it were before the first Thursday.
use mathlib.Core.Path.{◌≡◌, refl}
use Prim.Native.Nat.{ℕ, ◌+◌, ◌*◌, ◌<◌}
use native.Mathlib.Omega.{arith}
use lib.IntN.{ℤ, pos, negsuc, nat_abs, ◌+ℤ◌}
use Rattle.meaning.specs.Calendar.{leap, leap_year, year_length, days_on, days_back, new_year, date_number}
use Rattle.meaning.specs.Weeks.{thursday, IsWeek}

abbrev Dated : ℤ → ℕ → ℕ → ℕ → Type 0
Dated y m d = IsWeek (date_number y m d)

week : (z y : ℤ) (first later : ℕ) → 0 < nat_abs y → first < 7 → first + 7 * later < year_length (leap_year y) → new_year y +ℤ pos (first + 7 * later) ≡ thursday z → IsWeek z (1 + later)
week z y first later some early inside here =
    record {
      year = y;
      there = λ e. let n : nat_abs y ≡ 0 = rw e in omega arith;
      first = first;
      early = early;
      later = later;
      in_year = inside;
      here = here;
      count = refl;
    }

-- the last Monday of 2024 is in week 1 of 2025
pub next-years : Dated (pos 2024) 12 30 1
unfolding leap days_on date_number thursday
next-years = week (date_number (pos 2024) 12 30) (pos 2025) 1 0 (omega arith) (omega arith) (omega arith) refl

-- the first Sunday of 2021 is in week 53 of 2020, and the next day in week 1
pub last-years : Dated (pos 2021) 1 3 53
unfolding leap days_on date_number thursday
last-years = week (date_number (pos 2021) 1 3) (pos 2020) 1 52 (omega arith) (omega arith) (omega arith) refl

pub this-years : Dated (pos 2021) 1 4 1
unfolding leap days_on date_number thursday
this-years = week (date_number (pos 2021) 1 4) (pos 2021) 6 0 (omega arith) (omega arith) (omega arith) refl

-- day 0 is in week 1, and the day before in week 52 of year -1
pub first-week : IsWeek (pos 0) 1
unfolding leap days_on date_number thursday
first-week = week (pos 0) (pos 1) 3 0 (omega arith) (omega arith) (omega arith) refl

pub week-before : IsWeek (negsuc 0) 52
unfolding leap days_on days_back date_number thursday
week-before = week (negsuc 0) (negsuc 0) 5 51 (omega arith) (omega arith) (omega arith) refl
