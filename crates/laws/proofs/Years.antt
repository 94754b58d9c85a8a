-- Years come back: with all digits that follow where no digit does, and with a fixed count from seven digits on.
use mathlib.Core.Bool.{true, false}
use mathlib.Core.List.{List, [], ◌∷◌, ◌++◌}
use mathlib.Core.Option.{some}
use mathlib.Core.Path.{◌≡◌, refl, ap, ◌∙◌}
use Prim.Native.Nat.{ℕ, suc, ◌+◌, ◌%◌, ◌^◌, ◌≤◌, ◌<◌}
use native.Mathlib.Nat.{add-zero, pow-le-pow_right}
use native.Mathlib.Omega.{arith}
use lib.IntN.{ℤ, pos, negsuc, nat_abs}
use lib.ListN.{length, take, drop, length-append}
use lib.Seq.{take-append_seam}
use borrow.Author.Tests.{ne_eqb, lt-ltb, le-ltb}
use Rattle.meaning.specs.Bytes.{when, is_digit, digit_at, num, minus}
use Rattle.meaning.specs.Names.{Book}
use Rattle.meaning.specs.Numerals.{Signed, integer, all_digits, decimal, number_of}
use Rattle.meaning.specs.Readers.{got, ◌>>=◌, done, take_year}
use Rattle.meaning.specs.Reading.{read_rule, minus_first, digit_run, year}
use Rattle.meaning.specs.Writing.{is_negative, signed_text, two_digit_text}
use Rattle.meaning.specs.declared.Edition.{Edition}
use Rattle.meaning.specs.declared.Numeral.TheVariants.{Year}
use Rattle.meaning.specs.declared.Rule.TheVariants.{Years, FixedYear}
use Rattle.laws.proofs.Digits.{digit-bounds, all-num, decimal-num, num-some, num-fits}
use Rattle.laws.proofs.Numbers.{digits-come-back, sized-digits}
use Rattle.laws.proofs.Readers.{take-goes-on}
use Rattle.laws.proofs.Tests.{both_true}

-- the first byte, and how many digits there are

pub no_minus : (s r : List ℕ) → all_digits s ≡ true → 0 < length s → minus_first (s ++ r) ≡ 0
unfolding all_digits
no_minus [] r all h = absurd (omega arith)
no_minus (b ∷ s) r all h =
    let d = digit-bounds b (both_true (is_digit b) (all_digits s) all).0 in
    rw (ne_eqb b minus (λ e. omega arith))

no_run : (r : List ℕ) → digit_at 0 r ≡ false → digit_run r ≡ 0
unfolding digit_run digit_at
no_run [] h = refl
no_run (b ∷ r) h = rw h

pub run-of-digits : (s r : List ℕ) → all_digits s ≡ true → digit_at 0 r ≡ false → digit_run (s ++ r) ≡ length s
unfolding digit_run all_digits
run-of-digits [] r all h = no_run r h
run-of-digits (b ∷ s) r all h =
    let t = both_true (is_digit b) (all_digits s) all in
    rw t.0 (ap suc (run-of-digits s r t.1 h))

minus-comes-back : (s : List ℕ) → 0 < length s → all_digits s ≡ true → decimal 0 s ≤ 2147483648
    → number_of Year (minus ∷ s) ≡ some (record { negative = true; size = decimal 0 s })
unfolding number_of
minus-comes-back s some' all h = sized-digits Year true s some' all h

-- a year that is the whole of what is taken, before r, and what is made of it
pub year-carried : (of : ℤ → ℤ) (m : ℕ) (t r : List ℕ) (n : Signed) → m ≡ length t → number_of Year t ≡ some n
    → (take_year m >>= λ z. done (year (of z))) (t ++ r) ≡ got (length t) (year (of (integer n)))
year-carried of m t r n h e =
    let number : number_of Year (take (length t) (t ++ r)) ≡ some n = rw take-append_seam e in
    rw (h, take-goes-on Year (length t) (t ++ r) n (simp length-append (omega arith)) number) (simp add-zero)

-- the text of a year, by its sign
module _ (k n : ℕ) (small : n ≤ 5879611) where
  positive : number_of Year (num k n) ≡ some (record { negative = false; size = n })
  positive =
      digits-come-back Year (num k n) (num-some k n) (all-num k n) (rw decimal-num (omega arith))
      ∙ ap (λ (m : ℕ). some (record { negative = false; size = m })) (decimal-num k n)

  negative' : number_of Year (minus ∷ num k n) ≡ some (record { negative = true; size = n })
  negative' =
      minus-comes-back (num k n) (num-some k n) (all-num k n) (rw decimal-num (omega arith))
      ∙ ap (λ (m : ℕ). some (record { negative = true; size = m })) (decimal-num k n)

  seven-digits : 7 ≤ k → length (num k n) ≡ k
  seven-digits h =
      let seven : 10 ^ 7 ≤ 10 ^ k = pow-le-pow_right (omega arith) {i = 7} h in
      num-fits k n (omega arith) (omega arith)

pub years-come-back : (edition : Edition) (book : Book) (current k : ℕ) (z : ℤ) (r : List ℕ) → nat_abs z ≤ 5879611 → digit_at 0 r ≡ false
    → read_rule edition book current (Years k) (signed_text k z ++ r) ≡ got (length (signed_text k z)) (year z)
unfolding read_rule signed_text
years-come-back edition book current k (pos n) r small free =
    let length' : minus_first (num k n ++ r) + digit_run (drop (minus_first (num k n ++ r)) (num k n ++ r)) ≡ length (num k n)
    = rw (no_minus (num k n) r (all-num k n) (num-some k n)) (omega (arith, run-of-digits (num k n) r (all-num k n) free)) in
    year-carried (λ z. z) _ (num k n) r _ length' (positive k n small)
years-come-back edition book current k (negsuc n) r small free =
    let length' : 1 + digit_run (num k (suc n) ++ r) ≡ suc (length (num k (suc n)))
    = omega (arith, run-of-digits (num k (suc n)) r (all-num k (suc n)) free) in
    year-carried (λ z. z) _ (minus ∷ num k (suc n)) r _ length' (negative' k (suc n) small)

pub fixed-year-comes-back : (edition : Edition) (book : Book) (current k : ℕ) (z : ℤ) (r : List ℕ) → nat_abs z ≤ 5879611 → 7 ≤ k
    → read_rule edition book current (FixedYear k) (signed_text k z ++ r) ≡ got (length (signed_text k z)) (year z)
unfolding read_rule signed_text
fixed-year-comes-back edition book current k (pos n) r small seven =
    let length' : minus_first (num k n ++ r) + k ≡ length (num k n)
    = rw (no_minus (num k n) r (all-num k n) (num-some k n)) (omega (arith, seven-digits k n small seven)) in
    year-carried (λ z. z) _ (num k n) r _ length' (positive k n small)
fixed-year-comes-back edition book current k (negsuc n) r small seven =
    let length' : 1 + k ≡ suc (length (num k (suc n))) = omega (arith, seven-digits k (suc n) small seven) in
    year-carried (λ z. z) _ (minus ∷ num k (suc n)) r _ length' (negative' k (suc n) small)

-- yy, both ways

pub two-digit-whole : (z : ℤ) → nat_abs z < when (is_negative z) 10 100 → two_digit_text z ≡ signed_text 2 z
unfolding two_digit_text
two-digit-whole z h = rw (lt-ltb (nat_abs z) (when (is_negative z) 10 100) h)

pub two-digit-cut : (z : ℤ) → when (is_negative z) 10 100 ≤ nat_abs z → two_digit_text z ≡ num 2 (nat_abs z % 100)
unfolding two_digit_text
two-digit-cut z h = rw (le-ltb (nat_abs z) (when (is_negative z) 10 100) h)
