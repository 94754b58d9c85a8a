-- Laws of the digits of a fraction by their weights: one digit more, their end, how large they are together, and that they are the
-- nanoseconds of the definition.
use mathlib.Core.Bool.{true, false}
use mathlib.Core.List.{List, [], ◌∷◌, ◌++◌}
use mathlib.Core.Path.{◌≡◌, refl, ◌∙◌}
use Prim.Native.Nat.{ℕ, zero, suc, ◌+◌, ◌-◌, ◌*◌, ◌/◌, ◌^◌, ◌≤◌, ◌<◌}
use native.Mathlib.Nat.{mul-zero, add-mul, mul_assoc, mul_comm, mul-le-mul_right, one-le-pow, pow-suc}
use native.Mathlib.Numerals.{add-one}
use native.Mathlib.Omega.{arith}
use borrow.Author.Tests.{ltb-true, ltb-false}
use lib.Dec.{ltb}
use lib.ListN.{length, get_or, take, drop, replicate, drop_of_length-le}
use lib.Seq.{drop-cons}
use Rattle.laws.proofs.Digits.{digit-bounds}
use Rattle.laws.proofs.Tests.{by-test, when-is, passes-there}
use Rattle.meaning.specs.Bytes.{is_digit, digit_at}
use Rattle.meaning.specs.Numerals.{decimal}
use Rattle.meaning.specs.Reading.{digit_run}
use Rattle.meaning.specs.StampGrammar.{nanos_of}
use Rattle.stamps.specs.Fractions.{weight, weighted}

-- the turns of the loop

pub lighter : (k : ℕ) → weight k / 10 ≡ weight (k - 1)
lighter zero = refl
lighter (suc zero) = refl
lighter (suc (suc k)) =
    let one : suc (suc k) - 1 ≡ suc k = omega arith in
    rw (one, pow-suc 10 k) (omega arith)

module _ (s : List ℕ) (i : ℕ) (h : i < length s) where
  pub weighs : (k : ℕ) → is_digit (get_or s i 0) ≡ true
      → weighted k (drop i s) ≡ (get_or s i 0 - 48) * weight k + weighted (k - 1) (drop (i + 1) s)
  unfolding weighted
  weighs k e = rw (drop-cons s i 0 h, e, add-one i)

  pub weighs-none : (k : ℕ) → is_digit (get_or s i 0) ≡ false → weighted k (drop i s) ≡ 0
  unfolding weighted
  weighs-none k e = rw (drop-cons s i 0 h, e)

  pub run_on : is_digit (get_or s i 0) ≡ true → i + digit_run (drop i s) ≡ i + 1 + digit_run (drop (i + 1) s)
  unfolding digit_run
  run_on e = rw (drop-cons s i 0 h, e, add-one i) (omega arith)

  pub run_ends : is_digit (get_or s i 0) ≡ false → i + digit_run (drop i s) ≡ i
  unfolding digit_run
  run_ends e = rw (drop-cons s i 0 h, e) (omega arith)

pub weighs-end : (s : List ℕ) (i k : ℕ) → length s ≤ i → weighted k (drop i s) ≡ 0
unfolding weighted
weighs-end s i k h = rw (drop_of_length-le s h)

pub run_end : (s : List ℕ) (i : ℕ) → length s ≤ i → i + digit_run (drop i s) ≡ i
unfolding digit_run
run_end s i h = rw (drop_of_length-le s h) (omega arith)

pub run_fits : (s : List ℕ) → digit_run s ≤ length s
unfolding digit_run
run_fits [] = omega arith
run_fits (b ∷ s) =
    let rest = run_fits s in
    when-is (λ (n : ℕ). n ≤ suc (length s)) (is_digit b) (λ _. omega arith) (λ _. omega arith)

-- a turn, by how many digits are passed

module _ (k w : ℕ) (weighty : w ≡ weight (9 - k)) where
  fewer : 9 - (k + 1) ≡ 9 - k - 1
  fewer = omega arith

  pub turn-lighter : w / 10 ≡ weight (9 - (k + 1))
  turn-lighter = rw (fewer, weighty) (lighter (9 - k))

  pub turn-weighs : (s : List ℕ) (nanos d total : ℕ) → k < length s → is_digit (get_or s k 0) ≡ true → d ≡ get_or s k 0 - 48
      → nanos + weighted (9 - k) (drop k s) ≡ total
      → nanos + d * w + weighted (9 - (k + 1)) (drop (k + 1) s) ≡ total
  turn-weighs s nanos d total h yes' value sum =
      rw (value, weighty, fewer) (omega (arith, weighs s k h (9 - k) yes'))

-- whether there is a digit at all
pub some-run : (s : List ℕ) (i : ℕ) → digit_at i s ≡ true → i < i + digit_run (drop i s)
unfolding digit_at
some-run s i e =
    let h = passes-there is_digit s i refl e in
    omega (arith, run_on s i h e)

pub no_run : (s : List ℕ) (i : ℕ) → digit_at i s ≡ false → i + digit_run (drop i s) ≡ i
unfolding digit_at
no_run s i e =
    by-test (ltb i (length s)) (λ t. run_ends s i (ltb-true i (length s) t) e) (λ t. run_end s i (ltb-false i (length s) t))

-- how large

digit-weight : (b k : ℕ) → is_digit b ≡ true → (b - 48) * weight k ≤ 9 * weight k
digit-weight b k e = mul-le-mul_right (weight k) (omega (arith, digit-bounds b e))

heavier : (k : ℕ) → 9 * weight (suc k) + 10 ^ k ≡ 10 ^ suc k
heavier k = omega (arith, pow-suc 10 k)

weightless : (s : List ℕ) → weighted 0 s ≡ 0
unfolding weighted
weightless [] = refl
weightless (b ∷ s) = by-test (is_digit b) (λ e. rw e (omega (arith, mul-zero (b - 48), weightless s))) (λ e. rw e)

less_one : (k : ℕ) → suc k - 1 ≡ k
less_one k = omega arith

-- the first digit and the others
weighs-first : (b k : ℕ) (s : List ℕ) → is_digit b ≡ true → weighted (suc k) (b ∷ s) ≡ (b - 48) * 10 ^ k + weighted k s
unfolding weighted
weighs-first b k s e = rw (e, less_one k)

pub weighted-small : (k : ℕ) (s : List ℕ) → weighted k s < 10 ^ k
unfolding weighted
weighted-small zero s = omega (arith, weightless s)
weighted-small (suc k) [] = one-le-pow (suc k) 10 (omega arith)
weighted-small (suc k) (b ∷ s) =
    by-test (is_digit b)
    (λ e. omega (arith, weighs-first b k s e, digit-weight b (suc k) e, heavier k, weighted-small k s))
    (λ e. rw e (one-le-pow (suc k) 10 (omega arith)))

-- the nanoseconds of the definition

tenfold : (a d k : ℕ) → (a * 10 + d) * 10 ^ k ≡ a * 10 ^ suc k + d * 10 ^ k
tenfold a d k =
    add-mul (a * 10) d (10 ^ k)
    ∙ rw (pow-suc 10 k, mul_assoc a 10 (10 ^ k), mul_comm 10 (10 ^ k))

filled : (a k j : ℕ) → k ≤ j → decimal a (take k (replicate j 48)) ≡ a * 10 ^ k
unfolding decimal
filled a zero j h = omega arith
filled a (suc k) zero h = absurd (omega arith)
filled a (suc k) (suc j) h = filled (a * 10 + 0) k j (omega arith) ∙ tenfold a 0 k ∙ omega arith

run-weighs : (a k : ℕ) (s : List ℕ) → k ≤ 9 → decimal a (take k (take (digit_run s) s ++ replicate 9 48)) ≡ a * 10 ^ k + weighted k s
unfolding decimal digit_run weighted
run-weighs a zero s h = omega (arith, weightless s)
run-weighs a (suc k) [] h = filled a (suc k) 9 h ∙ omega arith
run-weighs a (suc k) (b ∷ s) h =
    by-test (is_digit b)
    (λ e. rw (e, less_one k) (run-weighs (a * 10 + (b - 48)) k s (omega arith) ∙ rw (tenfold a (b - 48) k) (omega arith)))
    (λ e. rw e (filled a (suc k) 9 h ∙ omega arith))

pub nanos-weighed : (s : List ℕ) → nanos_of (take (digit_run s) s) ≡ weighted 9 s
unfolding nanos_of
nanos-weighed s = run-weighs 0 9 s (omega arith) ∙ omega arith
