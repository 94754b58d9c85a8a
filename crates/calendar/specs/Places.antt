-- The number of a date by its year's place on the line.
use Rattle.std.specs.Prelude.{ℕ, suc, ◌+◌, ◌-◌, ℤ, nat_abs, Option, Some, None}
use Rattle.laws.specs.CalendarLine.{day_at, place}
use Rattle.meaning.specs.Answers.{◌else◌, refuse_unless, within}
use Rattle.meaning.specs.Bytes.{when, both}
use Rattle.meaning.specs.Calendar.{leap, days_on, month_length, before_month}
use Rattle.meaning.specs.Days.{is_short, day_number_by}
use Rattle.meaning.specs.Results.{Checked, DayNumber}
use Rattle.meaning.specs.declared.Refusal.TheVariants.{NoSuchDay, NoDayNumber}

-- a year of the field record
abbrev pub place_of : ℤ → Option ℕ
place_of y = when (within 1 5879611 (nat_abs y)) (Some (place y)) None

-- 18
abbrev pub short_check : ℕ → Checked
short_check n = refuse_unless (is_short (day_at n)) NoDayNumber

abbrev pub short_at : ℕ → DayNumber
short_at n = day_number_by (short_check n) (day_at n)

-- the place of a date on the line
abbrev pub date_at : ℕ → ℕ → ℕ → ℕ
date_at p m d = days_on p + (before_month (leap (suc p)) m + d - 1)

-- 17 of the month and the day, 18
unfoldable pub number_at : ℕ → ℕ → ℕ → DayNumber
number_at p m d =
    day_number_by
    (refuse_unless (both (within 1 12 m) (within 1 (month_length (leap (suc p)) m) d)) NoSuchDay else short_check (date_at p m d))
    (day_at (date_at p m d))
