-- Weekdays, and the weeks of ISO 8601. Day 0 is a Monday, with which a week begins.
use Rattle.std.specs.Prelude.{◌≡◌, ℕ, ◌+◌, ◌*◌, ◌-◌, ◌%◌, ◌<◌, ℤ, pos, negsuc, ◌+ℤ◌, ◌-ℤ◌}
use Rattle.meaning.specs.Calendar.{leap_year, year_length, new_year}

-- the days since the last Monday
unfoldable pub since_monday : ℤ → ℕ
since_monday (pos n) = n % 7
since_monday (negsuc n) = 6 - n % 7

-- 0 to 6 from Sunday, as in the field record
unfoldable pub weekday : ℤ → ℕ
unfolding since_monday
weekday z = (since_monday z + 1) % 7

-- the Thursday of a day's week
unfoldable pub thursday : ℤ → ℤ
unfolding since_monday
thursday z = z -ℤ pos (since_monday z) +ℤ pos 3

-- ISO 8601: the week that holds the year's first Thursday is week 1. So a week is of the year that its own Thursday is in, and
-- that is so many weeks after the first.
pub record IsWeek (z : ℤ) (week : ℕ) : Type 0 where
  pub year : ℤ
  pub there : year ≡ pos 0 → ⊥
  -- the days of the year before its first Thursday
  pub first : ℕ
  pub early : first < 7
  pub later : ℕ
  pub in_year : first + 7 * later < year_length (leap_year year)
  pub here : new_year year +ℤ pos (first + 7 * later) ≡ thursday z
  pub count : week ≡ 1 + later
