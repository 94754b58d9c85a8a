-- A date of the years 1 to 9999 is refused by 17 alone: its number has 22 bits.
use Rattle.std.specs.Prelude.{Ok, Err}
use mathlib.Core.Bool.{true}
use mathlib.Core.Path.{◌≡◌}
use Prim.Native.Nat.{ℕ, ◌+◌, ◌-◌, ◌≤◌, ◌<◌}
use native.Mathlib.Omega.{arith}
use borrow.Author.Tests.{le-leb, lt-leb}
use lib.IntN.{pos}
use Rattle.calendar.proofs.numbers.Checks.{days_room, few_days}
use Rattle.meaning.specs.Calendar.{leap, days_on, new_year, month_length, before_month, is_date, day_of_year, date_number}
use Rattle.meaning.specs.Days.{is_short, day_check}
use Rattle.meaning.specs.declared.Refusal.TheVariants.{NoSuchDay}

module _ (y m d : ℕ) (some : 1 ≤ y) (four : y ≤ 9999) (first : 1 ≤ m) (last : m ≤ 12) (one : 1 ≤ d) where
  pub no-day : month_length (leap y) m < d → Err NoSuchDay ≡ day_check (pos y) m d
  unfolding day_check is_date
  no-day h =
      rw (le-leb 1 y some, le-leb y 5879611 (omega arith), le-leb 1 m first, le-leb m 12 last, le-leb 1 d one, lt-leb d (month_length (leap y) m) h)

  module _ (fits : d ≤ month_length (leap y) m) where
    is-date : is_date (pos y) m d ≡ true
    unfolding is_date
    is-date =
        rw (le-leb 1 y some, le-leb y 5879611 (omega arith), le-leb 1 m first, le-leb m 12 last, le-leb 1 d one, le-leb d (month_length (leap y) m) fits)

    number_short : is_short (date_number (pos y) m d) ≡ true
    unfolding date_number new_year day_of_year
    number_short =
        le-leb (days_on (y - 1) + (before_month (leap y) m + d - 1)) 2147483647
        (omega (arith, days_room (y - 1), few_days (leap y) m d first last fits))

    pub a-day : (Ok tt) ≡ day_check (pos y) m d
    unfolding day_check
    a-day = rw (is-date, number_short)
