-- Two dates with one number are one date: a day is in one year alone, and in one month of it.
use mathlib.Core.Bool.{Bool, true}
use mathlib.Core.Path.{◌≡◌, sym, ap, ◌∙◌, subst}
use Prim.Native.Nat.{ℕ, zero, suc, ◌+◌, ◌-◌, ◌≤◌, ◌<◌}
use native.Mathlib.Omega.{arith}
use lib.IntN.{ℤ, pos, nat_abs, ◌+ℤ◌}
use Rattle.meaning.specs.Answers.{within}
use Rattle.meaning.specs.Bytes.{both}
use Rattle.meaning.specs.Calendar.{leap, leap_year, year_length, days_on, new_year, month_length, before_month, is_date, day_of_year, date_number}
use Rattle.laws.proofs.CalendarCycles.{year-after}
use Rattle.laws.proofs.CalendarLine.{OnLine, in-year, leap-place, year_at-place, line-day_at}
use Rattle.laws.proofs.CalendarMonths.{month-after, year-end}
use Rattle.laws.proofs.Checks.{within-is}
use Rattle.laws.proofs.Increasing.{one-step, never-falls}
use Rattle.laws.proofs.Tests.{both_true}
use Rattle.laws.specs.CalendarLine.{line, place, year_at}

-- one year, and one day of it

-- a day of the line is in one year alone, with as many days of it past
pub record SamePlace (p q past past' : ℕ) : Type 0 where
  pub year : p ≡ q
  pub since : past ≡ past'

pub one_place : (p q past past' : ℕ) → past < year_length (leap (suc p)) → past' < year_length (leap (suc q))
    → days_on p + past ≡ days_on q + past' → SamePlace p q past past'
one_place p q past past' i j e =
    let s : p ≡ q =
    one-step days_on (suc (p + q)) (λ (k : ℕ) (t : k < suc (p + q)). omega (arith, year-after k)) p q (days_on p + past) (omega arith) (omega arith)
    (omega arith) (omega (arith, year-after p)) (omega arith) (omega (arith, year-after q)) in
    record { year = s; since = omega (arith, ap days_on s) }

record SameYear (y y' : ℤ) (past past' : ℕ) : Type 0 where
  year : y ≡ y'
  since : past ≡ past'

one-year : (y y' : ℤ) (past past' : ℕ) → OnLine y → OnLine y' → past < year_length (leap_year y) → past' < year_length (leap_year y')
    → new_year y +ℤ pos past ≡ new_year y' +ℤ pos past' → SameYear y y' past past'
one-year y y' past past' h h' i i' e =
    let a = place y in
    let b = place y' in
    let n : days_on a + past ≡ days_on b + past' =
    sym (line-day_at (days_on a + past)) ∙ ap line (sym (in-year y past h) ∙ e ∙ in-year y' past' h') ∙ line-day_at (days_on b + past') in
    let s = one_place a b past past' (rw (leap-place y h) at i) (rw (leap-place y' h') at i') n in
    record { year = sym (year_at-place y h) ∙ ap year_at s.year ∙ year_at-place y' h'; since = s.since }

-- one month, and one day of it

never_back : (l : Bool) (k : ℕ) → k < 12 → before_month l (suc k) ≤ before_month l (suc (suc k))
never_back l k h = omega (arith, month-after l k h)

record SameMonth (m m' d d' : ℕ) : Type 0 where
  month : m ≡ m'
  day : d ≡ d'

one-month : (l : Bool) (m m' d d' : ℕ) → 1 ≤ m → m ≤ 12 → 1 ≤ m' → m' ≤ 12 → 1 ≤ d → d ≤ month_length l m → 1 ≤ d' → d' ≤ month_length l m'
    → before_month l m + d ≡ before_month l m' + d' → SameMonth m m' d d'
one-month l zero m' d d' a a₁ b b₁ c c₁ f f₁ e = absurd (omega arith)
one-month l (suc m) zero d d' a a₁ b b₁ c c₁ f f₁ e = absurd (omega arith)
one-month l (suc m) (suc m') d d' a a₁ b b₁ c c₁ f f₁ e =
    let s : m ≡ m' =
    one-step (λ (k : ℕ). before_month l (suc k)) 12 (never_back l) m m' (before_month l (suc m) + d - 1) a₁ b₁ (omega arith)
    (omega (arith, month-after l m a₁)) (omega arith) (omega (arith, month-after l m' b₁)) in
    record { month = ap suc s; day = omega (arith, ap (λ (k : ℕ). before_month l (suc k)) s) }

-- a day of a month is a day of its year
pub in-the-year : (l : Bool) (m d : ℕ) → 1 ≤ m → m ≤ 12 → d ≤ month_length l m → before_month l m + d ≤ year_length l
in-the-year l zero d a b c = absurd (omega arith)
in-the-year l (suc m) d a b c =
    omega
    (arith, month-after l m b, year-end l, never-falls (λ (k : ℕ). before_month l (suc k)) 12 (never_back l) (suc m) 12 b (omega arith))

-- one date

-- a month and a day that the year has; the year is any on the line
pub record RealDate (y : ℤ) (m d : ℕ) : Type 0 where
  pub year : OnLine y
  pub first : 1 ≤ m
  pub last : m ≤ 12
  pub some : 1 ≤ d
  pub fits : d ≤ month_length (leap_year y) m

pub date-year : (y : ℤ) (m d : ℕ) → is_date y m d ≡ true → (1 ≤ nat_abs y) × (nat_abs y ≤ 5879611)
unfolding is_date
date-year y m d t =
    within-is 1 5879611 (nat_abs y)
    (both_true (within 1 5879611 (nat_abs y)) (both (within 1 12 m) (within 1 (month_length (leap_year y) m) d)) t).0

pub is-date : (y : ℤ) (m d : ℕ) → is_date y m d ≡ true → RealDate y m d
unfolding is_date
is-date y m d t =
    let l = month_length (leap_year y) m in
    let a = both_true (within 1 5879611 (nat_abs y)) (both (within 1 12 m) (within 1 l d)) t in
    let b = both_true (within 1 12 m) (within 1 l d) a.1 in
    let year = within-is 1 5879611 (nat_abs y) a.0 in
    let month = within-is 1 12 m b.0 in
    let day = within-is 1 l d b.1 in
    record {
      year = record { some = year.0; near = omega arith };
      first = month.0;
      last = month.1;
      some = day.0;
      fits = day.1;
    }

pub record SameDate (y y' : ℤ) (m m' d d' : ℕ) : Type 0 where
  pub year : y ≡ y'
  pub month : m ≡ m'
  pub day : d ≡ d'

pub one-date : (y y' : ℤ) (m m' d d' : ℕ) → RealDate y m d → RealDate y' m' d' → date_number y m d ≡ date_number y' m' d' → SameDate y y' m m' d d'
unfolding date_number day_of_year
one-date y y' m m' d d' a b e =
    let l = leap_year y in
    let l' = leap_year y' in
    let i = in-the-year l m d a.first a.last a.fits in
    let i' = in-the-year l' m' d' b.first b.last b.fits in
    let s = one-year y y' (before_month l m + d - 1) (before_month l' m' + d' - 1) a.year b.year (omega (arith, a.some)) (omega (arith, b.some)) e in
    let f : d' ≤ month_length l m' = subst (λ (x : ℤ). d' ≤ month_length (leap_year x) m') (sym s.year) b.fits in
    let w : before_month l' m' ≡ before_month l m' = ap (λ (x : ℤ). before_month (leap_year x) m') (sym s.year) in
    let g = one-month l m m' d d' a.first a.last b.first b.last a.some a.fits b.some f (omega (arith, s.since, a.some, b.some)) in
    record { year = s.year; month = g.month; day = g.day }
