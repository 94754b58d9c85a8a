-- The arithmetic of months, by a computed test of each month and of each day of both kinds of year.
use mathlib.Core.Bool.{Bool, true, false}
use mathlib.Core.Path.{◌≡◌, refl}
use Prim.Native.Nat.{ℕ, zero, suc, ◌+◌, ◌-◌, ◌*◌, ◌/◌, ◌%◌, ◌≤◌, ◌<◌}
use native.Mathlib.Omega.{arith}
use borrow.Author.Tests.{lt-ltb, le-ltb}
use lib.Dec.{ltb}
use Rattle.calendar.specs.Months.{lost, stretched_past}
use Rattle.laws.proofs.CalendarMonths.{month-after}
use Rattle.laws.proofs.CalendarYears.{year-short}
use Rattle.laws.proofs.Tests.{by-test, tabulate, tables_agree}
use Rattle.laws.specs.CalendarLine.{InMonth}
use Rattle.meaning.specs.Bytes.{when}
use Rattle.meaning.specs.Calendar.{year_length, total, before_month, month_length}

-- where months begin

begins : Bool → ℕ → ℕ
begins l m = when (ltb m 2) ((367 * m + 5) / 12) ((367 * m + 5) / 12 - lost l)

begins-is : (l : Bool) (m : ℕ) → m < 13 → begins l m ≡ before_month l (suc m)
unfolding begins tabulate total before_month
begins-is true m h = tables_agree (begins true) (λ (m : ℕ). before_month true (suc m)) 13 m refl h
begins-is false m h = tables_agree (begins false) (λ (m : ℕ). before_month false (suc m)) 13 m refl h

pub early : (l : Bool) (m : ℕ) → m < 2 → (367 * m + 5) / 12 ≡ before_month l (suc m)
unfolding begins
early l m h = rw (lt-ltb m 2 h) at (begins-is l m (omega arith))

pub later : (l : Bool) (m : ℕ) → m < 13 → 2 ≤ m → (367 * m + 5) / 12 - lost l ≡ before_month l (suc m)
unfolding begins
later l m h k = rw (le-ltb m 2 k) at (begins-is l m h)

-- the month of a day, and the day of it

steps : Bool → ℕ → ℕ
steps l past = 67 * stretched_past l past + 2078

month_by : Bool → ℕ → ℕ
month_by l past = steps l past / 2048

day_by : Bool → ℕ → ℕ
day_by l past = steps l past % 2048 / 67 + 1

-- by how much there is no such month, it has no such day, or this is another day of the year
wrong : Bool → ℕ → ℕ
wrong l past =
    (1 - month_by l past) + (month_by l past - 12) + (day_by l past - month_length l (month_by l past))
    + (before_month l (month_by l past) + day_by l past - (past + 1)) + (past + 1 - (before_month l (month_by l past) + day_by l past))

not-wrong : (l : Bool) (past : ℕ) → past < year_length l → wrong l past ≡ 0
unfolding steps month_by day_by wrong tabulate total before_month month_length
not-wrong true past h = tables_agree (wrong true) (λ (n : ℕ). 0) 366 past refl h
not-wrong false past h = tables_agree (wrong false) (λ (n : ℕ). 0) 365 past refl h

some-day : (l : Bool) (past : ℕ) → 1 ≤ day_by l past
unfolding day_by
some-day l past = omega arith

found : (l : Bool) (past : ℕ) → past < year_length l → InMonth l past (month_by l past) (day_by l past)
unfolding wrong
found l past h =
    let e = not-wrong l past h in
    let d : 1 ≤ day_by l past = some-day l past in
    record { first = omega arith; last = omega arith; some = d; fits = omega arith; here = omega arith }

pub in-month : (l : Bool) (past n : ℕ) → past < year_length l → n ≡ stretched_past l past
    → InMonth l past ((67 * n + 2078) / 2048) ((67 * n + 2078) % 2048 / 67 + 1)
unfolding steps month_by day_by
in-month l past n h e = rw e (found l past h)

pub few-lost : (l : Bool) → lost l ≤ 2
few-lost true = omega arith
few-lost false = omega arith

pub few-steps : (l : Bool) (past : ℕ) → past < year_length l → stretched_past l past < 369
few-steps l past h =
    let s = year-short l in
    let f = few-lost l in
    by-test (ltb past (61 - lost l)) (λ t. rw t (omega arith)) (λ t. rw t (omega arith))

pub month-ends : (l : Bool) (m : ℕ) → 1 ≤ m → m ≤ 12 → before_month l (suc m) ≡ before_month l (suc (m - 1)) + month_length l m
month-ends l zero h k = absurd (omega arith)
month-ends l (suc m) h k = let e : suc m - 1 ≡ m = omega arith in rw e (month-after l m (omega arith))
