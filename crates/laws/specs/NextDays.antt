-- The date after a date.
use Rattle.std.specs.Prelude.{◌≡◌, ℕ, zero, suc, ◌+◌, ◌%◌, ltb, ℤ, pos, negsuc}
use Rattle.meaning.specs.Bytes.{when}
use Rattle.meaning.specs.Calendar.{leap_year, year_length, month_length}
use Rattle.meaning.specs.declared.Day.{Day}

-- -1 is followed by 1
abbrev pub next_year : ℤ → ℤ
next_year (pos n) = pos (suc n)
next_year (negsuc zero) = pos 1
next_year (negsuc (suc n)) = negsuc n

pub record Date : Type 0 where
  pub year : ℤ
  pub month : ℕ
  pub day : ℕ

abbrev pub date : ℤ → ℕ → ℕ → Date
date y m d = record { year = y; month = m; day = d }

-- the next day of the month, or the first of the next month, or that of the next year
unfoldable pub next_date : ℤ → ℕ → ℕ → Date
next_date y m d =
    when (ltb d (month_length (leap_year y) m)) (date y m (d + 1))
    (when (ltb m 12) (date y (m + 1) 1) (date (next_year y) 1 1))

-- s is the day after r
pub record Follows (r s : Day) : Type 0 where
  pub on : date s.year s.month s.day ≡ next_date r.year r.month r.day
  pub doy-is : s.doy ≡ when (ltb r.doy (year_length (leap_year r.year))) (r.doy + 1) 1
  pub wday-is : s.wday ≡ (r.wday + 1) % 7
