-- The days of so many years, on from 1 January of year 1 and back from it, in closed form.
use mathlib.Core.Bool.{Bool, true, false}
use mathlib.Core.Path.{◌≡◌, refl}
use Prim.Native.Nat.{ℕ, zero, suc, ◌+◌, ◌*◌, ◌/◌, ◌%◌, ◌≤◌}
use native.Mathlib.Omega.{arith}
use borrow.Author.Tests.{eqb-true, eq-eqb}
use Rattle.meaning.specs.Calendar.{divides, leap, year_length, days_on, days_back}
use Rattle.laws.proofs.Quotients.{one, next-div, next_up}
use Rattle.laws.proofs.Tests.{by-test}

pub year-short : (l : Bool) → year_length l ≤ 366
year-short true = omega arith
year-short false = omega arith

pub year-long : (l : Bool) → 365 ≤ year_length l
year-long true = omega arith
year-long false = omega arith

-- what divides by 400 divides by 100, and so by 4
by-hundred : (n : ℕ) → divides 400 n ≡ true → divides 100 n ≡ true
by-hundred n e = let h : n % 400 ≡ 0 = eqb-true (n % 400) 0 e in eq-eqb (n % 100) 0 (omega arith)

by-four : (n : ℕ) → divides 100 n ≡ true → divides 4 n ≡ true
by-four n e = let h : n % 100 ≡ 0 = eqb-true (n % 100) 0 e in eq-eqb (n % 4) 0 (omega arith)

-- a year's length by its three tests, with no choice in it
pub length-is : (n : ℕ) → year_length (leap n) + one (divides 100 n) ≡ 365 + one (divides 4 n) + one (divides 400 n)
unfolding leap
length-is n =
    by-test (divides 400 n)
    (λ e. let f = by-hundred n e in rw (e, f, by-four n f))
    (λ e. by-test (divides 100 n) (λ f. rw (e, f, by-four n f))
    (λ f. by-test (divides 4 n) (λ g. rw (e, f, g)) (λ g. rw (e, f, g))))

-- one year more, with the quotients as plain numbers, which `omega` would take apart
more : (a d l q q' h h' c c' x y z : ℕ) → d + h ≡ 365 * a + q + c → l + y ≡ 365 + x + z → q' ≡ q + x → h' ≡ h + y → c' ≡ c + z → d + l + h' ≡ 365 * suc a + q' + c'
more a d l q q' h h' c c' x y z e f e₁ e₂ e₃ = omega arith

pub days-on : (a : ℕ) → days_on a + a / 100 ≡ 365 * a + a / 4 + a / 400
unfolding days_on
days-on zero = refl
days-on (suc a) =
    more a (days_on a) (year_length (leap (suc a))) (a / 4) (suc a / 4) (a / 100) (suc a / 100) (a / 400) (suc a / 400) (one (divides 4 (suc a)))
    (one (divides 100 (suc a))) (one (divides 400 (suc a))) (days-on a) (length-is (suc a)) (next-div 4 (omega arith) a) (next-div 100 (omega arith) a) (next-div 400 (omega arith) a)

pub days-back : (a : ℕ) → days_back a + (a + 99) / 100 ≡ 365 * a + (a + 3) / 4 + (a + 399) / 400
unfolding days_back
days-back zero = refl
days-back (suc a) =
    more a (days_back a) (year_length (leap a)) ((a + 3) / 4) ((suc a + 3) / 4) ((a + 99) / 100) ((suc a + 99) / 100) ((a + 399) / 400)
    ((suc a + 399) / 400) (one (divides 4 a)) (one (divides 100 a)) (one (divides 400 a)) (days-back a) (length-is a)
    (next_up 4 (omega arith) 3 (omega arith) a) (next_up 100 (omega arith) 99 (omega arith) a) (next_up 400 (omega arith) 399 (omega arith) a)
