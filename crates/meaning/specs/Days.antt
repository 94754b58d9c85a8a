-- Request [2]: the day of a number, and the number of a day, which is checked for 17 and then 18.
use Rattle.std.specs.Prelude.{Bool, true, ◌≡◌, ℕ, suc, leb, ℤ, pos, negsuc, Ok, Err}
use Rattle.meaning.specs.Answers.{◌else◌, refuse_unless}
use Rattle.meaning.specs.Calendar.{is_date, day_of_year, date_number}
use Rattle.meaning.specs.Weeks.{weekday, IsWeek}
use Rattle.meaning.specs.Results.{Checked, DayNumber}
use Rattle.meaning.specs.declared.Day.{Day}
use Rattle.meaning.specs.declared.Refusal.TheVariants.{NoSuchDay, NoDayNumber}

-- r is the day with that number, and what the calendar says of it
pub record DayOf (z : ℤ) (r : Day) : Type 0 where
  pub real : is_date r.year r.month r.day ≡ true
  pub numbered : date_number r.year r.month r.day ≡ z
  pub doy-is : r.doy ≡ day_of_year r.year r.month r.day
  pub week-is : IsWeek z r.week
  pub wday-is : r.wday ≡ weekday z

-- 32 signed bits hold it
abbrev pub is_short : ℤ → Bool
is_short (pos n) = leb n 2147483647
is_short (negsuc n) = leb (suc n) 2147483648

-- 17, 18
unfoldable pub day_check : ℤ → ℕ → ℕ → Checked
day_check y m d =
    refuse_unless (is_date y m d) NoSuchDay else
    refuse_unless (is_short (date_number y m d)) NoDayNumber

abbrev pub day_number_by : Checked → ℤ → DayNumber
day_number_by (Ok _) z = Ok z
day_number_by (Err why) z = Err why

unfoldable pub day_number : ℤ → ℕ → ℕ → DayNumber
unfolding day_check
day_number y m d = day_number_by (day_check y m d) (date_number y m d)
