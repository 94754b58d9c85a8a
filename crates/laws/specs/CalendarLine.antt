-- Days and years as plain numbers, for the laws of the calendar and its code: 14,700 cycles of 400 years, 2,147,625,900 days and
-- 5,880,000 years, are added, so that every day and every year that can be asked for is 0 or more. A year's place is how many
-- years of that line stand before it. Both are whole weeks and whole cycles, so weekdays and leap years stay as they are.
use Rattle.std.specs.Prelude.{Bool, ◌≡◌, ℕ, suc, ◌+◌, ◌-◌, ◌/◌, ◌^◌, ◌≤◌, ◌<◌, leb, ℤ, pos, negsuc}
use Rattle.std.proofs.Math.IntN.{sub_ℕ}
use Rattle.std.specs.Int.Signed.{mag}
use Rattle.meaning.specs.Bytes.{when}
use Rattle.meaning.specs.Calendar.{leap, year_length, days_on, month_length, before_month}

-- 32 signed bits hold it
abbrev pub Short : ℤ → Type 0
Short z = mag z < 2 ^ 31

-- a day's place, and the day at a place
abbrev pub line : ℤ → ℕ
line (pos n) = n + 2147625900
line (negsuc n) = 2147625900 - suc n

abbrev pub day_at : ℕ → ℤ
day_at n = sub_ℕ n 2147625900

-- a year's place, and the year at a place
abbrev pub place : ℤ → ℕ
place (pos n) = 5880000 + (n - 1)
place (negsuc n) = 5880000 - suc n

abbrev pub year_at : ℕ → ℤ
year_at p = when (leb 5880000 p) (pos (p - 5879999)) (negsuc (5879999 - p))

-- day n is in the year after `at` others, of which there are fewer than `top`, and so many days of it are past
pub record InYear (top n at past : ℕ) : Type 0 where
  pub known : at < top
  pub here : days_on at + past ≡ n
  pub inside : past < year_length (leap (suc at))

-- the day of a year before which so many are past is that day of that month
pub record InMonth (l : Bool) (past month day : ℕ) : Type 0 where
  pub first : 1 ≤ month
  pub last : month ≤ 12
  pub some : 1 ≤ day
  pub fits : day ≤ month_length l month
  pub here : before_month l month + day ≡ past + 1

-- the week of a Thursday: its year, and how many Thursdays of that year there are to it
pub record WeekOn (thursday week : ℕ) : Type 0 where
  pub at : ℕ
  pub past : ℕ
  pub found : InYear 11760000 thursday at past
  pub count : week ≡ past / 7 + 1
