-- What is found for a place on the line is the day with that number.
use mathlib.Core.Path.{◌≡◌, sym, ap, ◌∙◌}
use Prim.Native.Nat.{ℕ, suc, ◌+◌, ◌-◌, ◌*◌, ◌/◌, ◌%◌, ◌≤◌, ◌<◌}
use native.Mathlib.Omega.{arith}
use borrow.Author.Tests.{le-leb, leb-true, leb-false}
use lib.Dec.{leb}
use lib.IntN.{ℤ, pos, nat_abs, ◌+ℤ◌}
use Rattle.laws.proofs.CalendarLine.{in-year, leap-place, place-year_at, year-year_at, day_at-line, since-monday, thursday-at, line-room}
use Rattle.laws.proofs.CalendarYears.{year-short, days-on}
use Rattle.laws.proofs.Tests.{by-test}
use Rattle.laws.specs.CalendarLine.{Short, line, day_at, year_at, InYear, InMonth, WeekOn}
use Rattle.meaning.specs.Calendar.{leap, leap_year, days_on, new_year, month_length, before_month, is_date, day_of_year, date_number}
use Rattle.meaning.specs.Days.{DayOf}
use Rattle.meaning.specs.Weeks.{weekday, IsWeek}

-- the days of 32 signed bits are in the years of the field record

low-place : (p past : ℕ) → 142252 ≤ days_on p + past → past < 366 → 389 ≤ p
low-place p past h k = omega (arith, days-on p)

high-place : (p past : ℕ) → days_on p + past ≤ 4295109547 → p ≤ 11759610
high-place p past h = omega (arith, days-on p)

pub near-places : (z : ℤ) (p past : ℕ) → Short z → InYear 11760000 (line z) p past → (389 ≤ p) × (p ≤ 11759610)
near-places z p past short y =
    let room = line-room z short in
    let e = y.here in
    let i = y.inside in
    let s = year-short (leap (suc p)) in
    (low-place p past (omega arith) (omega arith), high-place p past (omega arith))

near-year : (p : ℕ) → 389 ≤ p → p ≤ 11759610 → (1 ≤ nat_abs (year_at p)) × (nat_abs (year_at p) ≤ 5879611)
near-year p low high =
    by-test (leb 5880000 p) (λ t. let h = leb-true 5880000 p t in rw t (omega arith, omega arith))
    (λ t. let h = leb-false 5880000 p t in rw t (omega arith, omega arith))

not-zero : (y : ℤ) → 1 ≤ nat_abs y → y ≡ pos 0 → ⊥
not-zero y h e = omega (arith, ap nat_abs e)

module _ (p : ℕ) (known : p < 11760000) where
  leap-at : leap_year (year_at p) ≡ leap (suc p)
  leap-at = leap-place (year_at p) (year-year_at p known) ∙ ap (λ (q : ℕ). leap (suc q)) (place-year_at p)

  day-at : (past : ℕ) → new_year (year_at p) +ℤ pos past ≡ day_at (days_on p + past)
  day-at past = in-year (year_at p) past (year-year_at p known) ∙ ap (λ (q : ℕ). day_at (days_on q + past)) (place-year_at p)

module _ (z : ℤ) (short : Short z) where
  week-found : (week : ℕ) → WeekOn (line z - line z % 7 + 3) week → IsWeek z week
  week-found week w =
      let p = w.at in
      let k = w.found.known in
      let e : w.past % 7 + 7 * (w.past / 7) ≡ w.past = omega arith in
      record {
        year = year_at p;
        there = not-zero (year_at p) (year-year_at p k).some;
        first = w.past % 7;
        early = omega arith;
        later = w.past / 7;
        in_year = rw (leap-at p k, e) w.found.inside;
        here = rw e (day-at p k w.past ∙ ap day_at w.found.here ∙ sym (thursday-at z short));
        count = omega (arith, w.count);
      }

  pub day-found : (p past month day week : ℕ) → InYear 11760000 (line z) p past → InMonth (leap (suc p)) past month day
      → WeekOn (days_on p + (past + 3) - line z % 7) week
      → DayOf z (record { year = year_at p; month = month; day = day; doy = past + 1; week = week; wday = (line z % 7 + 1) % 7 })
  unfolding is_date date_number day_of_year weekday
  day-found p past month day week y m w =
      let k = y.known in
      let e = y.here in
      let near = near-places z p past short y in
      let n = near-year p near.0 near.1 in
      let l = leap-at p k in
      let q : days_on p + (before_month (leap_year (year_at p)) month + day - 1) ≡ days_on p + past = rw l (omega (arith, m.here)) in
      let t : days_on p + (past + 3) - line z % 7 ≡ line z - line z % 7 + 3 = omega arith in
      record {
        real =
            rw (
              le-leb 1 (nat_abs (year_at p)) n.0,
              le-leb (nat_abs (year_at p)) 5879611 n.1,
              le-leb 1 month m.first,
              le-leb month 12 m.last,
              le-leb 1 day m.some,
              l,
              le-leb day (month_length (leap (suc p)) month) m.fits,
            );
        numbered =
            day-at p k (before_month (leap_year (year_at p)) month + day - 1)
            ∙ ap day_at (q ∙ e) ∙ day_at-line z short;
        doy-is = rw l (sym m.here);
        week-is = week-found week (rw t at w);
        wday-is = rw (since-monday z short);
      }
