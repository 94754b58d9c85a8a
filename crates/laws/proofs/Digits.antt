-- Laws of decimal text: how many digits there are, that they are digits, what number they stand for and when all are zero; and
-- the turns of the loops that count and lay them. Reading a written number back is in Numbers.
use mathlib.Core.Bool.{true, false}
use mathlib.Core.List.{List, [], ◌∷◌, ◌++◌}
use mathlib.Core.Logic.{◌⊎◌, ⊎_elim}
use mathlib.Core.Path.{◌≡◌, refl, sym, ap, ◌∙◌}
use Prim.Native.Nat.{ℕ, zero, suc, ◌+◌, ◌-◌, ◌*◌, ◌/◌, ◌%◌, ◌^◌, ◌≤◌, ◌<◌, max}
use native.Mathlib.Nat.{pow-suc, pow-le-pow_right, lt_of_lt_of_le, div-lt_iff_lt-mul}
use native.Mathlib.Omega.{arith}
use lib.Dec.{eqb, leb, ltb}
use lib.ListN.{length, set, length-append, get_or-append}
use lib.Seq.{sets}
use borrow.Author.Tests.{eqb-true, eqb-false, ne_eqb, lt-ltb, le-ltb, ltb-true, ltb-false, le-leb, lt-leb, leb-true}
use Rattle.meaning.specs.Bytes.{when, both, is_digit, digit_at, digits, width_in, width, num}
use Rattle.meaning.specs.Numerals.{all_digits, decimal}
use Rattle.meaning.specs.Writing.{all_zero}
use Rattle.laws.proofs.Laid.{sets-append, set-sets}
use Rattle.laws.proofs.Tests.{by-test, both_true, both-are}

pub digit-yes : (b : ℕ) → 48 ≤ b → b ≤ 57 → is_digit b ≡ true
digit-yes b h k = rw (le-leb 48 b h, le-leb b 57 k)

pub digit-below : (b : ℕ) → b < 48 → is_digit b ≡ false
digit-below b h = rw (lt-leb 48 b h)

pub digit-above : (b : ℕ) → 57 < b → is_digit b ≡ false
digit-above b h = rw (le-leb 48 b (omega arith), lt-leb b 57 h)

pub digit-bounds : (b : ℕ) → is_digit b ≡ true → (48 ≤ b) × (b ≤ 57)
digit-bounds b h =
    let t = both_true (leb 48 b) (leb b 57) h in
    (leb-true 48 b t.0, leb-true b 57 t.1)

-- the last w digits

pub length_digits : (w n : ℕ) → length (digits w n) ≡ w
unfolding digits
length_digits zero n = refl
length_digits (suc w) n = length-append (digits w (n / 10)) _ ∙ omega (arith, length_digits w (n / 10))

all_snoc : (s : List ℕ) (b : ℕ) → all_digits s ≡ true → is_digit b ≡ true → all_digits (s ++ (b ∷ [])) ≡ true
unfolding all_digits
all_snoc [] b h k = rw k
all_snoc (a ∷ s) b h k =
    let t = both_true (is_digit a) (all_digits s) h in
    both-are (is_digit a) (all_digits (s ++ (b ∷ []))) t.0 (all_snoc s b t.1 k)

pub all_digits_lem : (w n : ℕ) → all_digits (digits w n) ≡ true
unfolding digits all_digits
all_digits_lem zero n = refl
all_digits_lem (suc w) n = all_snoc (digits w (n / 10)) (48 + n % 10) (all_digits_lem w (n / 10)) (digit-yes (48 + n % 10) (omega arith) (omega arith))

decimal-snoc : (s : List ℕ) (a b : ℕ) → decimal a (s ++ (b ∷ [])) ≡ decimal a s * 10 + (b - 48)
unfolding decimal
decimal-snoc [] a b = refl
decimal-snoc (d ∷ s) a b = decimal-snoc s (a * 10 + (d - 48)) b

tenth : (w n : ℕ) → n < 10 ^ suc w → n / 10 < 10 ^ w
tenth w n h = (div-lt_iff_lt-mul {k = 10} {x = n} {y = 10 ^ w} (omega arith)).1 (rw pow-suc at h)

pub decimal-digits : (w n : ℕ) → n < 10 ^ w → decimal 0 (digits w n) ≡ n
unfolding digits decimal
decimal-digits zero n h = omega arith
decimal-digits (suc w) n h =
    decimal-snoc (digits w (n / 10)) 0 (48 + n % 10) ∙ rw (decimal-digits w (n / 10) (tenth w n h)) (omega arith)

-- how many digits a number has

last-digit : (steps n : ℕ) → n < 10 → width_in steps n ≡ 1
unfolding width_in
last-digit zero n h = refl
last-digit (suc steps) n h = rw (lt-ltb n 10 h, width_in)

more-digits : (steps n : ℕ) → 10 ≤ n → width_in (suc steps) n ≡ suc (width_in steps (n / 10))
unfolding width_in
more-digits steps n h = rw (le-ltb n 10 h, width_in)

-- the bound on the steps does not matter from n on
steps-enough : (f g n : ℕ) → n ≤ f → n ≤ g → width_in f n ≡ width_in g n
steps-enough zero g n h k = last-digit zero n (omega arith) ∙ sym (last-digit g n (omega arith))
steps-enough (suc f) zero n h k = last-digit (suc f) n (omega arith) ∙ sym (last-digit zero n (omega arith))
steps-enough (suc f) (suc g) n h k =
    by-test (ltb n 10)
    (λ e. let t = ltb-true n 10 e in last-digit (suc f) n t ∙ sym (last-digit (suc g) n t))
    (λ e.
    let t = ltb-false n 10 e in
    more-digits f n t ∙ ap suc (steps-enough f g (n / 10) (omega arith) (omega arith)) ∙ sym (more-digits g n t))

pub width_small : (n : ℕ) → n < 10 → width n ≡ 1
unfolding width
width_small n h = last-digit n n h

pub width-turn : (n : ℕ) → 10 ≤ n → width n ≡ suc (width (n / 10))
unfolding width
width-turn zero h = absurd (omega arith)
width-turn (suc n) h =
    more-digits n (suc n) h ∙ ap suc (steps-enough n (suc n / 10) (suc n / 10) (omega arith) (omega arith))

pub width-at-least : (n : ℕ) → 0 < width n
width-at-least n =
    by-test (ltb n 10) (λ e. omega (arith, width_small n (ltb-true n 10 e)))
    (λ e. omega (arith, width-turn n (ltb-false n 10 e)))

-- a number below 10 ^ k has at most k digits
pub width-at-most : (k n : ℕ) → 0 < k → n < 10 ^ k → width n ≤ k
width-at-most zero n p h = absurd (omega arith)
width-at-most (suc zero) n p h = omega (arith, width_small n h)
width-at-most (suc (suc k)) n p h =
    by-test (ltb n 10) (λ e. omega (arith, width_small n (ltb-true n 10 e)))
    (λ e.
    let t : 10 ≤ n = ltb-false n 10 e in
    omega (arith, width-turn n t, width-at-most (suc k) (n / 10) (omega arith) (tenth (suc k) n h)))

below-width_in : (steps n : ℕ) → n ≤ steps → n < 10 ^ width_in steps n
below-width_in zero n h = rw (last-digit zero n (omega arith)) (omega arith)
below-width_in (suc steps) n h =
    by-test (ltb n 10) (λ e. let t : n < 10 = ltb-true n 10 e in rw (last-digit (suc steps) n t) t)
    (λ e.
    let t : 10 ≤ n = ltb-false n 10 e in
    rw (more-digits steps n t)
    (omega (arith, below-width_in steps (n / 10) (omega arith), pow-suc 10 (width_in steps (n / 10)))))

-- "num k"

pub length-num : (k n : ℕ) → length (num k n) ≡ max k (width n)
unfolding num
length-num k n = length_digits (max k (width n)) n

pub num-fits : (k n : ℕ) → 0 < k → n < 10 ^ k → length (num k n) ≡ k
num-fits k n p h = length-num k n ∙ omega (arith, width-at-most k n p h)

-- a number that fits has just so many
pub num-digits : (k n : ℕ) → 0 < k → n < 10 ^ k → num k n ≡ digits k n
unfolding num
num-digits k n p h = let e : max k (width n) ≡ k = omega (arith, width-at-most k n p h) in rw e

pub num-some : (k n : ℕ) → 0 < length (num k n)
num-some k n = rw length-num (omega (arith, width-at-least n))

pub all-num : (k n : ℕ) → all_digits (num k n) ≡ true
unfolding num
all-num k n = all_digits_lem (max k (width n)) n

pub below-width : (n : ℕ) → n < 10 ^ width n
unfolding width
below-width n = below-width_in n n (omega arith)

num-below : (k n : ℕ) → n < 10 ^ max k (width n)
num-below k n = lt_of_lt_of_le (below-width n) (pow-le-pow_right (omega arith) (omega arith))

pub decimal-num : (k n : ℕ) → decimal 0 (num k n) ≡ n
unfolding num
decimal-num k n = decimal-digits (max k (width n)) n (num-below k n)

-- whether every digit is zero

pub all-zero-append : (s t : List ℕ) → all_zero (s ++ t) ≡ both (all_zero s) (all_zero t)
unfolding all_zero
all-zero-append [] t = refl
all-zero-append (b ∷ s) t =
    by-test (when (is_digit b) (eqb b 48) true) (λ e. rw e (all-zero-append s t)) (λ e. rw e)

-- a digit behind others, all of them those of n
zero-snoc : (n : ℕ) → both (eqb (n / 10) 0) (all_zero ((48 + n % 10) ∷ [])) ≡ eqb n 0
unfolding all_zero
zero-snoc n =
    let digit : is_digit (48 + n % 10) ≡ true = digit-yes (48 + n % 10) (omega arith) (omega arith) in
    rw digit
    (by-test (eqb n 0)
    (λ e. let none : n ≡ 0 = eqb-true n 0 e in rw none)
    (λ e.
    by-test (eqb (n / 10) 0)
    (λ d. rw (e, d, ne_eqb (48 + n % 10) 48 (λ last. eqb-false n 0 e (omega (arith, eqb-true (n / 10) 0 d)))))
    (λ d. rw (e, d))))

zero-digits : (w n : ℕ) → n < 10 ^ w → all_zero (digits w n) ≡ eqb n 0
unfolding digits all_zero
zero-digits zero n h = let none : n ≡ 0 = omega arith in rw none
zero-digits (suc w) n h =
    all-zero-append (digits w (n / 10)) ((48 + n % 10) ∷ []) ∙ rw (zero-digits w (n / 10) (tenth w n h)) (zero-snoc n)

pub zero-num : (k n : ℕ) → all_zero (num k n) ≡ eqb n 0
unfolding num
zero-num k n = zero-digits (max k (width n)) n (num-below k n)

-- loops: a turn that lays a digit from the right, its end, and the number that is then there

digits-snoc : (l : List ℕ) (at i m : ℕ) → sets (set l (at + i) (48 + m % 10)) at (digits i (m / 10)) ≡ sets l at (digits (suc i) m)
unfolding digits
digits-snoc l at i m =
    let d : ℕ = 48 + m % 10 in
    let e : length (digits i (m / 10)) ≡ i = length_digits i (m / 10) in
    sym (set-sets l at (digits i (m / 10)) (at + i) d (omega arith))
    ∙ ap (λ (k : ℕ). set (sets l at (digits i (m / 10))) (at + k) d) (sym e)
    ∙ sym (sets-append l at (digits i (m / 10)) (d ∷ []))

pub digits-turn : (l : List ℕ) (at i m : ℕ) → 0 < i
    → sets (set l (at + (i - 1)) (48 + m % 10)) at (digits (i - 1) (m / 10)) ≡ sets l at (digits i m)
digits-turn l at i m h =
    let e : i ≡ suc (i - 1) = omega arith in
    digits-snoc l at (i - 1) m ∙ ap (λ (k : ℕ). sets l at (digits k m)) (sym e)

pub digits-done : (l : List ℕ) (at i m : ℕ) → i ≤ 0 → sets l at (digits i m) ≡ l
unfolding digits
digits-done l at i m h =
    let e : i ≡ 0 = omega arith in
    rw e

-- numbers of one digit, and of two
pub num-one : (k n : ℕ) → k < 2 → n < 10 → num k n ≡ (48 + n) ∷ []
unfolding num digits
num-one k n h small =
    let w = width_small n small in
    let e : max k (width n) ≡ 1 = omega (arith, w) in
    let d : n % 10 ≡ n = omega arith in
    rw (e, digits, d)

pub num-two : (k n : ℕ) → k ≤ 2 → n < 100 → (10 ≤ n) ⊎ (2 ≤ k) → num k n ≡ digits 2 n
unfolding num
num-two k n few small h =
    let e : max k (width n) ≡ 2 = ⊎_elim
    (λ large. omega (arith, width-turn n large, width_small (n / 10) (omega arith)))
    (λ two. omega (arith, width-at-most 2 n (omega arith) (omega arith))) h in
    rw e

-- digits at their places, before whatever follows

digit_at_lem : (s : List ℕ) → all_digits s ≡ true → (j : ℕ) → j < length s → digit_at j s ≡ true
unfolding all_digits digit_at
digit_at_lem [] h j k = absurd (omega arith)
digit_at_lem (b ∷ s) h zero k = (both_true (is_digit b) (all_digits s) h).0
digit_at_lem (b ∷ s) h (suc j) k = digit_at_lem s (both_true (is_digit b) (all_digits s) h).1 j (omega arith)

pub digit-in : (s r : List ℕ) → all_digits s ≡ true → (j : ℕ) → j < length s → digit_at j (s ++ r) ≡ true
unfolding digit_at
digit-in s r h j k = rw (get_or-append s r 0 j k) (digit_at_lem s h j k)

pub digit-behind : (s r : List ℕ) → digit_at (length s) (s ++ r) ≡ digit_at 0 r
unfolding digit_at
digit-behind [] r = refl
digit-behind (b ∷ s) r = digit-behind s r
