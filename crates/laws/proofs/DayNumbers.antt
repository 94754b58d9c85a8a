-- Request [2]: a number has one day, a day that has a number comes back from it, and a number from its day. And the first and the
-- last day that have one.
use Rattle.std.specs.Prelude.{Ok, Err}
use mathlib.Core.Bool.{true}
use mathlib.Core.Path.{◌≡◌, sym, ap, ◌∙◌}
use Prim.Native.Nat.{ℕ, suc, ◌+◌, ◌-◌}
use native.Mathlib.Omega.{arith}
use borrow.Author.Tests.{le-leb, leb-true}
use lib.IntN.{ℤ, pos, negsuc}
use Rattle.meaning.specs.Calendar.{leap, days_on, total, before_month, is_date, day_of_year, date_number}
use Rattle.meaning.specs.Days.{DayOf, is_short, day_number}
use Rattle.meaning.specs.declared.Day.{Day}
use Rattle.meaning.specs.declared.Refusal.{Refusal}
use Rattle.meaning.specs.declared.Refusal.TheVariants.{NoSuchDay, NoDayNumber}
use Rattle.laws.proofs.CalendarDates.{SameDate, is-date, one-date}
use Rattle.laws.proofs.CalendarLine.{OnLine, in-year}
use Rattle.laws.proofs.CalendarYears.{days-on}
use Rattle.laws.proofs.Tests.{by-test}
use Rattle.laws.proofs.WeekNumbers.{one-week}
use Rattle.laws.specs.CalendarLine.{Short, day_at}

-- what 32 signed bits hold, as a test and as the prover has it
pub is-short : (z : ℤ) → Short z → is_short z ≡ true
is-short (pos n) h = le-leb n 2147483647 (omega arith)
is-short (negsuc n) h = le-leb (suc n) 2147483648 (omega arith)

short-is : (z : ℤ) → is_short z ≡ true → Short z
short-is (pos n) h = omega (arith, leb-true n 2147483647 h)
short-is (negsuc n) h = omega (arith, leb-true (suc n) 2147483648 h)

-- every number comes back from its day
pub number-comes-back : (z : ℤ) (r : Day) → Short z → DayOf z r → day_number r.year r.month r.day ≡ Ok z
unfolding day_number
number-comes-back z r short k = rw (k.real, k.numbered, is-short z short)

-- a day that has a number is a date, and that number is the date's
record Numbered (y : ℤ) (m d : ℕ) (z : ℤ) : Type 0 where
  real : is_date y m d ≡ true
  is : date_number y m d ≡ z

refused-no-number : {P : Type 0} (why : Refusal) (z : ℤ) → Err why ≡ Ok z → P
refused-no-number why z e = absurd (let f : ◌≡◌ {A = ℕ} 0 1 = cc in omega arith)

numbered : (y : ℤ) (m d : ℕ) (z : ℤ) → day_number y m d ≡ Ok z → Numbered y m d z
unfolding day_number
numbered y m d z e =
    by-test (is_date y m d)
    (λ t.
    by-test (is_short (date_number y m d))
    (λ s. let f : Ok (date_number y m d) ≡ Ok z = rw (t, s) at e in record { real = t; is = cc })
    (λ s. refused-no-number NoDayNumber z (rw (t, s) at e)))
    (λ t. refused-no-number NoSuchDay z (rw t at e))

-- every day that has a number comes back from it
pub day-comes-back : (y : ℤ) (m d : ℕ) (z : ℤ) (r : Day) → day_number y m d ≡ Ok z → DayOf z r → SameDate r.year y r.month m r.day d
day-comes-back y m d z r e k =
    let n = numbered y m d z e in
    one-date r.year y r.month m r.day d (is-date r.year r.month r.day k.real) (is-date y m d n.real) (k.numbered ∙ sym n.is)

-- calendar::day_of: its promise determines the day, field by field

abbrev made : ℤ → ℕ → ℕ → ℕ → ℕ → ℕ → Day
made y m d doy week wday = record { year = y; month = m; day = d; doy = doy; week = week; wday = wday }

pub days-coincide : (z : ℤ) (r s : Day) → Short z → DayOf z r → DayOf z s → r ≡ s
days-coincide z r s short a b =
    let t = one-date r.year s.year r.month s.month r.day s.day (is-date r.year r.month r.day a.real) (is-date s.year s.month s.day b.real) (a.numbered ∙ sym b.numbered) in
    let y = t.year in
    let m = t.month in
    let d = t.day in
    let o : r.doy ≡ s.doy = a.doy-is ∙ rw (y, m, d) (sym b.doy-is) in
    let w = one-week z r.week s.week short a.week-is b.week-is in
    let v : r.wday ≡ s.wday = a.wday-is ∙ sym b.wday-is in
    let e : made r.year r.month r.day r.doy r.week r.wday ≡ made s.year s.month s.day s.doy s.week s.wday = rw (y, m, d, o, w, v) in
    e

-- the last and the first day that have a number, and the days beyond them; so many years are counted in closed form

july : (day : ℕ) → date_number (pos 5879611) 7 day ≡ day_at (4295109355 + (181 + day - 1))
unfolding leap total before_month day_of_year date_number
july day =
    let y : OnLine (pos 5879611) = record { some = omega arith; near = omega arith } in
    let e : days_on 11759610 ≡ 4295109355 = omega (arith, days-on 11759610) in
    in-year (pos 5879611) (181 + day - 1) y ∙ ap (λ (n : ℕ). day_at (n + (181 + day - 1))) e

june : (day : ℕ) → date_number (negsuc 5879610) 6 day ≡ day_at (142079 + (151 + day - 1))
unfolding leap total before_month day_of_year date_number
june day =
    let y : OnLine (negsuc 5879610) = record { some = omega arith; near = omega arith } in
    let e : days_on 389 ≡ 142079 = omega (arith, days-on 389) in
    in-year (negsuc 5879610) (151 + day - 1) y ∙ ap (λ (n : ℕ). day_at (n + (151 + day - 1))) e

pub last-day : day_number (pos 5879611) 7 12 ≡ Ok (pos 2147483647)
unfolding leap is_date day_number
last-day = rw (july 12)

pub after_last : day_number (pos 5879611) 7 13 ≡ Err NoDayNumber
unfolding leap is_date day_number
after_last = rw (july 13)

pub first-day : day_number (negsuc 5879610) 6 23 ≡ Ok (negsuc 2147483647)
unfolding leap is_date day_number
first-day = rw (june 23)

pub before-first : day_number (negsuc 5879610) 6 22 ≡ Err NoDayNumber
unfolding leap is_date day_number
before-first = rw (june 22)
