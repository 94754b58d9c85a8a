-- The cycle of 400 years: its days, the days before a year of it, and the leap years, which come again.
use mathlib.Core.Bool.{Bool}
use mathlib.Core.Path.{◌≡◌, refl, ap}
use Prim.Native.Nat.{ℕ, suc, ◌+◌, ◌-◌, ◌*◌, ◌/◌, ◌≤◌, ◌<◌}
use native.Mathlib.Omega.{arith}
use lib.Dec.{eqb}
use Rattle.meaning.specs.Calendar.{divides, leap, year_length, days_on, days_back}
use Rattle.laws.proofs.CalendarYears.{days-on, days-back}
use Rattle.laws.proofs.Quotients.{on-div, on-mod, back-div, back-divides}

-- c cycles on, with the quotients as plain numbers
add-up : (c k d d' q q' h h' r r' : ℕ) → d + h ≡ 365 * k + q + r → d' + h' ≡ 365 * (400 * c + k) + q' + r' → q' ≡ 100 * c + q → h' ≡ 4 * c + h → r' ≡ c + r → d' ≡ 146097 * c + d
add-up c k d d' q q' h h' r r' e e' e₁ e₂ e₃ = omega arith

pub cycles-on : (c k : ℕ) → days_on (400 * c + k) ≡ 146097 * c + days_on k
cycles-on c k =
    add-up c k (days_on k) (days_on (400 * c + k)) (k / 4) ((400 * c + k) / 4) (k / 100) ((400 * c + k) / 100) (k / 400) ((400 * c + k) / 400)
    (days-on k) (days-on (400 * c + k)) (on-div 4 (omega arith) (100 * c) k (400 * c + k) (omega arith))
    (on-div 100 (omega arith) (4 * c) k (400 * c + k) (omega arith)) (on-div 400 (omega arith) c k (400 * c + k) (omega arith))

-- a year and its days, counted back from the end of 14,700 cycles
add_back : (j i d d' q q' h h' r r' : ℕ) → i + j ≡ 5880000 → d + h ≡ 365 * i + q + r → d' + h' ≡ 365 * j + q' + r' → q + q' ≡ 1470000 → h + h' ≡ 58800 → r + r' ≡ 14700 → d + d' ≡ 2147625900
add_back j i d d' q q' h h' r r' s e e' e₁ e₂ e₃ = omega arith

pub cycles-back : (j : ℕ) → j ≤ 5880000 → days_on (5880000 - j) + days_back j ≡ 2147625900
cycles-back j le =
    add_back j (5880000 - j) (days_on (5880000 - j)) (days_back j) ((5880000 - j) / 4) ((j + 3) / 4) ((5880000 - j) / 100) ((j + 99) / 100)
    ((5880000 - j) / 400) ((j + 399) / 400) (omega arith) (days-on (5880000 - j)) (days-back j) (back-div 4 (omega arith) 3 (omega arith) 1470000 j (5880000 - j) (omega arith))
    (back-div 100 (omega arith) 99 (omega arith) 58800 j (5880000 - j) (omega arith))
    (back-div 400 (omega arith) 399 (omega arith) 14700 j (5880000 - j) (omega arith))

-- leap years come again
same-leap : (a b : ℕ) → divides 4 a ≡ divides 4 b → divides 100 a ≡ divides 100 b → divides 400 a ≡ divides 400 b → leap a ≡ leap b
unfolding leap
same-leap a b e₁ e₂ e₃ = rw (e₁, e₂, e₃)

abbrev is-0 : ℕ → Bool
is-0 n = eqb n 0

pub leap-on : (c k : ℕ) → leap (400 * c + k) ≡ leap k
leap-on c k =
    same-leap (400 * c + k) k (ap is-0 (on-mod 4 (omega arith) (100 * c) k (400 * c + k) (omega arith)))
    (ap is-0 (on-mod 100 (omega arith) (4 * c) k (400 * c + k) (omega arith)))
    (ap is-0 (on-mod 400 (omega arith) c k (400 * c + k) (omega arith)))

pub leap-back : (j : ℕ) → j ≤ 5880000 → leap (5880000 - j) ≡ leap j
leap-back j le =
    same-leap (5880000 - j) j (back-divides 4 (omega arith) 1470000 j (5880000 - j) (omega arith))
    (back-divides 100 (omega arith) 58800 j (5880000 - j) (omega arith))
    (back-divides 400 (omega arith) 14700 j (5880000 - j) (omega arith))

-- the table's formula is the days before a year of the cycle
pub table_is : (k : ℕ) → k < 400 → 365 * k + k / 4 - k / 100 ≡ days_on k
table_is k h = let e : k / 400 ≡ 0 = omega arith in omega (arith, days-on k)

pub year-after : (k : ℕ) → days_on (suc k) ≡ days_on k + year_length (leap (suc k))
unfolding days_on
year-after k = refl
