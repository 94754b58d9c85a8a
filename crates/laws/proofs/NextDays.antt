-- The next number is the next day's: the date after, the next weekday, and the next day of the year, or its first.
use mathlib.Core.Bool.{Bool, true}
use mathlib.Core.Path.{◌≡◌, sym, ap, ◌∙◌}
use Prim.Native.Nat.{ℕ, zero, suc, ◌+◌, ◌-◌, ◌%◌, ◌≤◌, ◌<◌}
use native.Mathlib.Omega.{arith}
use borrow.Author.Tests.{ltb-true, ltb-false, lt-ltb, le-ltb}
use lib.Dec.{ltb}
use lib.IntN.{ℤ, pos, negsuc, nat_abs, ◌+ℤ◌}
use Rattle.meaning.specs.Bytes.{when}
use Rattle.meaning.specs.Calendar.{leap_year, year_length, days_on, total, month_length, before_month, is_date, day_of_year, date_number}
use Rattle.meaning.specs.Days.{DayOf}
use Rattle.meaning.specs.Weeks.{since_monday, weekday}
use Rattle.meaning.specs.declared.Day.{Day}
use Rattle.laws.proofs.CalendarCycles.{year-after}
use Rattle.laws.proofs.CalendarDates.{RealDate, in-the-year, date-year, is-date, one-date}
use Rattle.laws.proofs.CalendarLine.{OnLine, in-year, leap-place, line-next, since-monday, sub-add}
use Rattle.laws.proofs.CalendarMonths.{month-after, month-long, year-end}
use Rattle.laws.proofs.Tests.{when-is}
use Rattle.laws.specs.CalendarLine.{Short, line, day_at, place}
use Rattle.laws.specs.NextDays.{next_year, Date, date, next_date, Follows}

-- the year after

next-on-line : (y : ℤ) → OnLine y → nat_abs y ≤ 5879611 → OnLine (next_year y)
next-on-line (pos n) h k = record { some = omega arith; near = omega arith }
next-on-line (negsuc zero) h k = record { some = omega arith; near = omega arith }
next-on-line (negsuc (suc n)) h k = record { some = omega arith; near = omega arith }

next_place : (y : ℤ) → OnLine y → place (next_year y) ≡ suc (place y)
next_place (pos n) h = omega (arith, h.some)
next_place (negsuc zero) h = omega arith
next_place (negsuc (suc n)) h = omega (arith, h.near)

-- what is to be shown of the date after y, m, d

record Next (y : ℤ) (m d : ℕ) (t : Date) : Type 0 where
  real : RealDate t.year t.month t.day
  number : date_number t.year t.month t.day ≡ date_number y m d +ℤ pos 1
  doy : day_of_year t.year t.month t.day ≡ when (ltb (day_of_year y m d) (year_length (leap_year y))) (day_of_year y m d + 1) 1

-- one day more on the line is one more in number
one_more : (y x : ℤ) (m k d e : ℕ) → OnLine y → OnLine x → days_on (place x) + (day_of_year x k e - 1) ≡ days_on (place y) + (day_of_year y m d - 1) + 1
    → date_number x k e ≡ date_number y m d +ℤ pos 1
unfolding date_number
one_more y x m k d e h i s =
    let n = days_on (place y) + (day_of_year y m d - 1) in
    in-year x (day_of_year x k e - 1) i ∙ ap day_at s ∙ sym (sub-add n 1 2147625900)
    ∙ ap (λ (z : ℤ). z +ℤ pos 1) (sym (in-year y (day_of_year y m d - 1) h))

module _ (y : ℤ) (m d : ℕ) (h : RealDate y m d) where
  -- not the last day of its month
  in-month : d < month_length (leap_year y) m → Next y m d (date y m (d + 1))
  unfolding day_of_year
  in-month t =
      let i = in-the-year (leap_year y) m (d + 1) h.first h.last (omega arith) in
      let o = h.some in
      record {
        real = record { year = h.year; first = h.first; last = h.last; some = omega arith; fits = omega arith };
        number = one_more y y m m d (d + 1) h.year h.year (omega arith);
        doy = rw (lt-ltb (before_month (leap_year y) m + d) (year_length (leap_year y)) (omega arith)) (omega arith);
      }

month-ends : (l : Bool) (m : ℕ) → 1 ≤ m → m ≤ 12 → before_month l (m + 1) ≡ before_month l m + month_length l m
month-ends l zero h k = absurd (omega arith)
month-ends l (suc m) h k = let e : suc m + 1 ≡ suc (suc m) = omega arith in rw e (month-after l m k)

-- its last day
module _ (y : ℤ) (m d : ℕ) (h : RealDate y m d) (t : d ≡ month_length (leap_year y) m) where
  in-year-next : m < 12 → Next y m d (date y (m + 1) 1)
  unfolding day_of_year
  in-year-next k =
      let l = leap_year y in
      let e = month-ends l m h.first h.last in
      let n : suc m ≡ m + 1 = omega arith in
      let o : 28 ≤ month_length l (m + 1) = rw n at (month-long l m k) in
      let i = in-the-year l (m + 1) 1 (omega arith) (omega arith) (omega arith) in
      let some = h.some in
      record {
        real = record { year = h.year; first = omega arith; last = omega arith; some = omega arith; fits = omega arith };
        number = one_more y y m (m + 1) d 1 h.year h.year (omega arith);
        doy = rw (lt-ltb (before_month l m + d) (year_length l) (omega arith)) (omega arith);
      }

  -- and the last of its year
  year-next : nat_abs y ≤ 5879611 → 12 ≤ m → Next y m d (date (next_year y) 1 1)
  unfolding day_of_year total before_month
  year-next near k =
      let l = leap_year y in
      let e = month-ends l m h.first h.last in
      let n : m + 1 ≡ 13 = omega (arith, h.last) in
      let w : before_month l m + d ≡ year_length l = omega (arith, ap (before_month l) n, year-end l) in
      let x = next-on-line y h.year near in
      let g : days_on (place (next_year y)) ≡ days_on (place y) + year_length l =
      ap days_on (next_place y h.year) ∙ year-after (place y) ∙ ap (λ (b : Bool). days_on (place y) + year_length b) (sym (leap-place y h.year)) in
      let some = h.some in
      let long = month-long (leap_year (next_year y)) 0 (omega arith) in
      record {
        real = record { year = x; first = omega arith; last = omega arith; some = omega arith; fits = omega arith };
        number = one_more y (next_year y) m 1 d 1 h.year x (omega arith);
        doy = rw (le-ltb (before_month l m + d) (year_length l) (omega arith));
      }

next-is : (y : ℤ) (m d : ℕ) → is_date y m d ≡ true → Next y m d (next_date y m d)
unfolding next_date
next-is y m d t =
    let h = is-date y m d t in
    let l = month_length (leap_year y) m in
    when-is (Next y m d) (ltb d l) (λ i. in-month y m d h (ltb-true d l i))
    (λ i.
    let e : d ≡ l = omega (arith, ltb-false d l i, h.fits) in
    when-is (Next y m d) (ltb m 12) (λ j. in-year-next y m d h e (ltb-true m 12 j))
    (λ j. year-next y m d h e (date-year y m d t).1 (ltb-false m 12 j)))

next-turn : (n : ℕ) → suc n % 7 ≡ (n % 7 + 1) % 7
next-turn n = omega arith

next-weekday : (z : ℤ) → Short z → Short (z +ℤ pos 1) → weekday (z +ℤ pos 1) ≡ (weekday z + 1) % 7
unfolding weekday
next-weekday z short next =
    let e : since_monday (z +ℤ pos 1) ≡ (since_monday z + 1) % 7 =
    since-monday (z +ℤ pos 1) next ∙ ap (λ (n : ℕ). n % 7) (line-next z short) ∙ next-turn (line z)
    ∙ ap (λ (n : ℕ). (n + 1) % 7) (sym (since-monday z short)) in
    ap (λ (n : ℕ). (n + 1) % 7) e

pub next-day : (z : ℤ) (r s : Day) → Short z → Short (z +ℤ pos 1) → DayOf z r → DayOf (z +ℤ pos 1) s → Follows r s
next-day z r s short next a b =
    let t = next_date r.year r.month r.day in
    let n = next-is r.year r.month r.day a.real in
    let e = one-date s.year t.year s.month t.month s.day t.day (is-date s.year s.month s.day b.real) n.real (b.numbered ∙ ap (λ (x : ℤ). x +ℤ pos 1) (sym a.numbered) ∙ sym n.number) in
    let on : date s.year s.month s.day ≡ date t.year t.month t.day = rw (e.year, e.month, e.day) in
    record {
      on = on;
      doy-is = b.doy-is ∙ rw (e.year, e.month, e.day, a.doy-is) n.doy;
      wday-is = b.wday-is ∙ next-weekday z short next ∙ ap (λ (k : ℕ). (k + 1) % 7) (sym a.wday-is);
    }
