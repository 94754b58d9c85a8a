-- Laws of reading a number's digits one by one: a digit more, a byte that is none, a size too large, the end.
use mathlib.Core.Bool.{Bool, true, false}
use mathlib.Core.List.{List, [], ◌∷◌}
use mathlib.Core.Option.{Option, none, some}
use Rattle.std.specs.Prelude.{Result, Ok, Err}
use mathlib.Core.Path.{◌≡◌, refl, ◌∙◌}
use Prim.Native.Nat.{ℕ, zero, suc, ◌+◌, ◌-◌, ◌*◌, ◌≤◌, ◌<◌}
use native.Mathlib.Numerals.{add-one}
use native.Mathlib.Omega.{arith}
use lib.Dec.{leb}
use lib.ListN.{length, get_or, take, drop, drop_of_length-le}
use lib.Seq.{drop-cons}
use borrow.Author.Tests.{eq-eqb, ne_eqb, le-leb, lt-leb, le-ltb, lt-ltb}
use Rattle.laws.proofs.Tests.{by-test}
use Rattle.meaning.specs.Bytes.{when, both, is_digit}
use Rattle.meaning.specs.Numerals.{Signed, all_digits, decimal, largest, sized, sign_of, sized_by, number_of}
use Rattle.meaning.specs.Readers.{taken_number, take_number}
use Rattle.meaning.specs.declared.Numeral.{Numeral}
use Rattle.meaning.specs.declared.Numeral.TheVariants.{Count, Year}
use Rattle.meaning.specs.declared.Sign.TheVariants.{Bare}
use Rattle.meaning.specs.declared.Trouble.{Trouble}
use Rattle.meaning.specs.declared.Trouble.TheVariants.{TooFew, PlusSign, NoNumber}
use Rattle.numerals.specs.Numbers.{number_in, got_number}
use Rattle.numerals.specs.declared.Number.{Number}

-- the number of these digits behind those that gave n, held to the most that fits
unfoldable pub sized_from : ℕ → Bool → ℕ → List ℕ → Result Number Trouble
sized_from most negative n s = when (both (all_digits s) (leb (decimal n s) most)) (Ok (record { negative = negative; size = decimal n s })) (Err NoNumber)

pub largest-fits : (kind : Numeral) (negative : Bool) → largest kind negative ≤ 4294967295
largest-fits Count negative = omega arith
largest-fits Year false = omega arith
largest-fits Year true = omega arith

pub sized-none : (kind : Numeral) (negative : Bool) (s : List ℕ) → length s ≡ 0 → number_in (sized kind negative s) ≡ Err NoNumber
unfolding sized
sized-none kind negative [] h = refl
sized-none kind negative (b ∷ s) h = absurd (omega arith)

pub sized-some : (kind : Numeral) (negative : Bool) (s : List ℕ) → (length s ≡ 0 → ⊥)
    → number_in (sized kind negative s) ≡ sized_from (largest kind negative) negative 0 s
unfolding sized sized_from
sized-some kind negative [] h = absurd (h refl)
sized-some kind negative (b ∷ s) h =
    by-test (both (all_digits (b ∷ s)) (leb (decimal 0 (b ∷ s)) (largest kind negative))) (λ e. rw e) (λ e. rw e)

both_false : (t : Bool) → both t false ≡ false
both_false true = refl
both_false false = refl

grows : (n : ℕ) (s : List ℕ) → n ≤ decimal n s
unfolding decimal
grows n [] = omega arith
grows n (b ∷ s) = omega (arith, grows (n * 10 + (b - 48)) s)

too_large : (most : ℕ) (negative : Bool) (n : ℕ) (s : List ℕ) → most < n → sized_from most negative n s ≡ Err NoNumber
unfolding sized_from
too_large most negative n s h = rw (lt-leb (decimal n s) most (omega (arith, grows n s)), both_false)

module _ (most : ℕ) (negative : Bool) (n : ℕ) (s : List ℕ) (i : ℕ) where
  pub no_digit : i < length s → is_digit (get_or s i 0) ≡ false → sized_from most negative n (drop i s) ≡ Err NoNumber
  unfolding sized_from all_digits
  no_digit h e = rw (drop-cons s i 0 h, e)

  pub digit-more : i < length s → is_digit (get_or s i 0) ≡ true
      → sized_from most negative n (drop i s) ≡ sized_from most negative (n * 10 + (get_or s i 0 - 48)) (drop (i + 1) s)
  unfolding sized_from all_digits decimal
  digit-more h e = rw (drop-cons s i 0 h, add-one, e)

  pub digit-too-many : i < length s → is_digit (get_or s i 0) ≡ true → most < n * 10 + (get_or s i 0 - 48)
      → sized_from most negative n (drop i s) ≡ Err NoNumber
  digit-too-many h e k = digit-more h e ∙ too_large most negative (n * 10 + (get_or s i 0 - 48)) (drop (i + 1) s) k

  pub digits-done : length s ≤ i → n ≤ most → sized_from most negative n (drop i s) ≡ Ok (record { negative = negative; size = n })
  unfolding sized_from all_digits decimal
  digits-done h k = rw (drop_of_length-le s h, le-leb n most k)

-- a number of k bytes, by what its first byte says

front : (k : ℕ) (s : List ℕ) → 0 < k → 0 < length s → take k s ≡ get_or s 0 0 ∷ take (k - 1) (drop 1 s)
front k [] h g = absurd (omega arith)
front zero (b ∷ s) h g = absurd (omega arith)
front (suc k) (b ∷ s) h g = let e : suc k - 1 ≡ k = omega arith in rw e

taken_is : (k : ℕ) (n : Option Signed) → got_number (taken_number k n) ≡ number_in n
taken_is k none = refl
taken_is k (some n) = refl

pub number-signed : (kind : Numeral) (k : ℕ) (s : List ℕ) → 0 < k → k ≤ length s → (get_or s 0 0 ≡ 43 → ⊥)
    → got_number (take_number kind k s)
    ≡ number_in (sized_by kind (sign_of kind (get_or s 0 0)) (get_or s 0 0) (take (k - 1) (drop 1 s)))
unfolding take_number number_of
number-signed kind k s h g e =
    rw (le-ltb (length s) k g, front k s h (omega arith), ne_eqb (get_or s 0 0) 43 e)
    (taken_is k (sized_by kind (sign_of kind (get_or s 0 0)) (get_or s 0 0) (take (k - 1) (drop 1 s))))

pub number-plus : (kind : Numeral) (k : ℕ) (s : List ℕ) → 0 < k → k ≤ length s → get_or s 0 0 ≡ 43
    → got_number (take_number kind k s) ≡ Err PlusSign
unfolding take_number
number-plus kind k s h g e = rw (le-ltb (length s) k g, front k s h (omega arith), eq-eqb (get_or s 0 0) 43 e)

pub number_short : (kind : Numeral) (k : ℕ) (s : List ℕ) → length s < k → got_number (take_number kind k s) ≡ Err TooFew
unfolding take_number
number_short kind k s h = rw (lt-ltb (length s) k h)

pub number-of-none : (kind : Numeral) (k : ℕ) (s : List ℕ) → k ≡ 0 → got_number (take_number kind k s) ≡ Err NoNumber
unfolding take_number number_of
number-of-none kind k s h = rw (h, le-ltb (length s) 0 (omega arith))

pub whole-number : (kind : Numeral) (k : ℕ) (s : List ℕ) → 0 < k → k ≤ length s → (get_or s 0 0 ≡ 43 → ⊥) → sign_of kind (get_or s 0 0) ≡ Bare
    → got_number (take_number kind k s) ≡ number_in (sized kind false (take k s))
whole-number kind k s h g p e = number-signed kind k s h g p ∙ rw (e, ← front k s h (omega arith))
