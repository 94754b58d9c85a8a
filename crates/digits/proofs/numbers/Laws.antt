-- Four digits are two and two, nine are one, four and four; and how many digits thousands have.
use mathlib.Core.Bool.{true}
use mathlib.Core.List.{[], ◌∷◌, ◌++◌}
use mathlib.Core.Path.{◌≡◌, refl, sym}
use Prim.Native.Nat.{ℕ, ◌+◌, ◌/◌, ◌%◌, ◌≤◌, ◌<◌, max}
use native.Mathlib.Omega.{arith}
use lib.Dec.{eqb, leb}
use borrow.Author.Tests.{eq-eqb, ne_eqb, eqb-true, leb-true, leb-false}
use Rattle.laws.proofs.Digits.{width-at-least, width-at-most, width-turn}
use Rattle.laws.proofs.Tests.{by-test}
use Rattle.meaning.specs.Bytes.{digits, width, num}

pub digits-four : (n : ℕ) → n < 10000 → digits 2 (n / 100) ++ digits 2 (n % 100) ≡ digits 4 n
unfolding digits
digits-four n h =
    let a : n / 100 / 10 ≡ n / 10 / 10 / 10 = omega arith in
    let b : n / 100 ≡ n / 10 / 10 = omega arith in
    let c : n % 100 / 10 % 10 ≡ n / 10 % 10 = omega arith in
    let d : n % 100 % 10 ≡ n % 10 = omega arith in
    rw (c, d, a, b)

last-four : (n : ℕ) → digits 4 (n % 10000) ≡ digits 4 n
unfolding digits
last-four n =
    let a : n % 10000 / 10 / 10 / 10 % 10 ≡ n / 10 / 10 / 10 % 10 = omega arith in
    let b : n % 10000 / 10 / 10 % 10 ≡ n / 10 / 10 % 10 = omega arith in
    let c : n % 10000 / 10 % 10 ≡ n / 10 % 10 = omega arith in
    let d : n % 10000 % 10 ≡ n % 10 = omega arith in
    rw (a, b, c, d)

nine-at : (n : ℕ) → (48 + n / 10 / 10 / 10 / 10 / 10 / 10 / 10 / 10 % 10) ∷ [] ++ digits 4 (n / 10 / 10 / 10 / 10) ++ digits 4 n ≡ digits 9 n
unfolding digits
nine-at n = refl

pub digits-nine : (n : ℕ) → n < 1000000000 → (48 + n / 100000000) ∷ [] ++ digits 4 (n / 10000 % 10000) ++ digits 4 (n % 10000) ≡ digits 9 n
digits-nine n h =
    let first : n / 100000000 ≡ n / 10 / 10 / 10 / 10 / 10 / 10 / 10 / 10 % 10 = omega arith in
    let four : n / 10000 ≡ n / 10 / 10 / 10 / 10 = omega arith in
    rw (last-four n, last-four (n / 10000), first, four) (nine-at n)

pub four-at-least : (n : ℕ) → 1000 ≤ n → 4 ≤ width n
four-at-least n h =
    omega (
      arith,
      width-turn n (omega arith),
      width-turn (n / 10) (omega arith),
      width-turn (n / 10 / 10) (omega arith),
      width-at-least (n / 10 / 10 / 10),
    )

pub five-at-least : (n : ℕ) → 10000 ≤ n → 5 ≤ width n
five-at-least n h = omega (arith, width-turn n (omega arith), four-at-least (n / 10) (omega arith))

-- below 10000 and with a smaller padding, the thousands alone have four digits
pub four-of : (k n : ℕ) → k < 4 → n < 10000 → leb 1000 n ≡ eqb (max k (width n)) 4
four-of k n small below =
    by-test (leb 1000 n)
    (λ e.
    let thousands : 1000 ≤ n = leb-true 1000 n e in
    rw e (sym (eq-eqb (max k (width n)) 4 (omega (arith, four-at-least n thousands, width-at-most 4 n (omega arith) below)))))
    (λ e.
    let fewer : n < 1000 = leb-false 1000 n e in
    rw e (sym (ne_eqb (max k (width n)) 4 (λ four. omega (arith, four, width-at-most 3 n (omega arith) fewer)))))

-- four digits are the whole number
pub four-digits : (k n : ℕ) → eqb (max k (width n)) 4 ≡ true → num k n ≡ digits 4 n
unfolding num
four-digits k n h = rw (eqb-true (max k (width n)) 4 h)

pub four_below : (k n : ℕ) → eqb (max k (width n)) 4 ≡ true → n < 10000
four_below k n h =
    by-test (leb 10000 n)
    (λ e. omega (arith, five-at-least n (leb-true 10000 n e), eqb-true (max k (width n)) 4 h))
    (λ e. leb-false 10000 n e)
