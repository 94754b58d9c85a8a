-- What the check of a record says, as bounds of its fields, and how many digits each quantity can have.
use Rattle.std.specs.Prelude.{Ok}
use mathlib.Core.Path.{◌≡◌}
use Prim.Native.Nat.{ℕ, zero, suc, ◌+◌, ◌-◌, ◌/◌, ◌%◌, ◌^◌, ◌≤◌, ◌<◌}
use native.Mathlib.Nat.{div-lt_iff_lt-mul, pow-le-pow_right, pow-suc}
use native.Mathlib.Omega.{arith}
use lib.Dec.{leb}
use lib.IntN.{nat_abs}
use lib.Pow.{pow-add}
use borrow.Author.Tests.{leb-true, leb-false}
use Rattle.meaning.specs.Answers.{◌else◌, refuse_unless, within, fields_check}
use Rattle.meaning.specs.Writing.{quantity_of, in_place_of_zero, hour_of}
use Rattle.meaning.specs.Results.{Checked}
use Rattle.meaning.specs.declared.Fields.{Fields}
use Rattle.meaning.specs.declared.Quantity.{Quantity}
use Rattle.meaning.specs.declared.Quantity.TheVariants.{Month, Quarter, Week, Day, DayOfYear, Weekday, WeekdayFromMonday, Hour1To12, Hour0To11, Hour0To23, Hour1To24, Minute, Second, Fraction}
use Rattle.meaning.specs.declared.Refusal.{Refusal}
use Rattle.laws.specs.Widths.{most_digits}
use Rattle.laws.proofs.Checks.{else-fine, within-is, fine-unless}
use Rattle.laws.proofs.Tests.{by-test}

pub record Allowed (f : Fields) : Type 0 where
  pub year : (1 ≤ nat_abs f.year) × (nat_abs f.year ≤ 5879611)
  pub month : (1 ≤ f.month) × (f.month ≤ 12)
  pub day : (1 ≤ f.day) × (f.day ≤ 31)
  pub doy : (1 ≤ f.doy) × (f.doy ≤ 366)
  pub week : (1 ≤ f.week) × (f.week ≤ 53)
  pub wday : f.wday ≤ 6
  pub nanos : f.nanos ≤ 86399999999999
  pub offset : nat_abs f.offset ≤ 86399

-- a bound of a field, and the checks behind it
in-range : (low high n : ℕ) (why : Refusal) (next : Checked) → (refuse_unless (within low high n) why else next) ≡ Ok tt
    → ((low ≤ n) × (n ≤ high)) × (next ≡ Ok tt)
in-range low high n why next h =
    let t = else-fine (refuse_unless (within low high n) why) next h in
    (within-is low high n (fine-unless (within low high n) why t.0), t.1)

last-in-range : (low high n : ℕ) (why : Refusal) → refuse_unless (within low high n) why ≡ Ok tt → (low ≤ n) × (n ≤ high)
last-in-range low high n why h = within-is low high n (fine-unless (within low high n) why h)

pub allowed : (f : Fields) → fields_check f ≡ Ok tt → Allowed f
unfolding fields_check
allowed f h =
    let year = in-range 1 5879611 (nat_abs f.year) _ _ h in
    let month = in-range 1 12 f.month _ _ year.1 in
    let day = in-range 1 31 f.day _ _ month.1 in
    let doy = in-range 1 366 f.doy _ _ day.1 in
    let week = in-range 1 53 f.week _ _ doy.1 in
    let wday = in-range 0 6 f.wday _ _ week.1 in
    let nanos = in-range 0 86399999999999 f.nanos _ _ wday.1 in
    record {
      year = year.0;
      month = month.0;
      day = day.0;
      doy = doy.0;
      week = week.0;
      wday = wday.0.1;
      nanos = nanos.0.1;
      offset = (last-in-range 0 86399 (nat_abs f.offset) _ nanos.1).1;
    }

-- how many digits a quantity can have

below-in-place : (k n m : ℕ) → k < m → n < m → in_place_of_zero k n < m
below-in-place k zero m h l = h
below-in-place k (suc n) m h l = l

pub ten-positive : (k : ℕ) → 0 < 10 ^ k
ten-positive zero = omega arith
ten-positive (suc k) = rw pow-suc (let h = ten-positive k in omega arith)

fraction-below : (n k : ℕ) → n % 1000000000 / 10 ^ (9 - k) < 10 ^ k
fraction-below n k =
    by-test (leb k 9)
    (λ e.
    let h : k ≤ 9 = leb-true k 9 e in
    let nine : k + (9 - k) ≡ 9 = omega arith in
    (div-lt_iff_lt-mul {k = 10 ^ (9 - k)} {x = n % 1000000000} {y = 10 ^ k} (ten-positive (9 - k))).1
    (rw (← pow-add 10 k (9 - k), nine) (omega arith)))
    (λ e.
    let h : 9 < k = leb-false k 9 e in
    let none : 9 - k ≡ 0 = omega arith in
    let billion : 10 ^ 9 ≤ 10 ^ k = pow-le-pow_right (omega arith) {i = 9} (omega arith) in
    rw none (omega arith))

pub quantity-below : (q : Quantity) (f : Fields) → Allowed f → quantity_of q f < 10 ^ most_digits q
unfolding quantity_of most_digits
quantity-below Month f h = omega arith
quantity-below Quarter f h = omega arith
quantity-below Week f h = omega arith
quantity-below Day f h = omega arith
quantity-below DayOfYear f h = omega arith
quantity-below Weekday f h = omega arith
quantity-below WeekdayFromMonday f h = omega arith
quantity-below Hour1To12 f h = below-in-place 12 (hour_of f % 12) 100 (omega arith) (omega arith)
quantity-below Hour0To11 f h = omega arith
quantity-below Hour0To23 f h = omega arith
quantity-below Hour1To24 f h = below-in-place 24 (hour_of f) 100 (omega arith) (omega arith)
quantity-below Minute f h = omega arith
quantity-below Second f h = omega arith
quantity-below (Fraction k) f h = fraction-below f.nanos k
