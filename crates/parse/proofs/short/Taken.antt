-- One digit or two in front of a text are the number that its rule reads.
use Rattle.std.specs.Prelude.{Option, Some, None}
use mathlib.Core.Bool.{true, false}
use mathlib.Core.List.{List, [], ◌∷◌}
use mathlib.Core.Path.{◌≡◌, refl}
use Prim.Native.Nat.{ℕ, ◌+◌, ◌-◌, ◌*◌, ◌≤◌, ◌<◌}
use native.Mathlib.Omega.{arith}
use lib.Dec.{eqb, leb}
use lib.IntN.{pos}
use lib.ListN.{length, drop, drop_of_length-le}
use borrow.Author.Tests.{eqb-true, eqb-false, leb-true, leb-false}
use Rattle.laws.proofs.Digits.{digit-bounds}
use Rattle.laws.proofs.Numbers.{taken-comes-back}
use Rattle.laws.proofs.Tests.{by-test}
use Rattle.meaning.specs.Bytes.{when, is_digit, digit_at}
use Rattle.meaning.specs.Numerals.{all_digits, decimal}
use Rattle.meaning.specs.Readers.{got, reach}
use Rattle.meaning.specs.Reading.{value, zero_for, taken_unit}
use Rattle.meaning.specs.declared.ParseUnit.{ParseUnit}
use Rattle.parse.specs.ShortReads.{digit_first, found, second_digits, short_digits}
use Rattle.parse.specs.declared.short.Digits.{Digits}

-- the digit in front
pub first_small : (s : List ℕ) {a : ℕ} → digit_first s ≡ Some a → a < 10
first_small [] h = absurd (let z : ◌≡◌ {A = ℕ} 0 1 = cc in omega arith)
first_small (b ∷ s) {a} h =
    by-test (is_digit b)
    (λ e. let d : b - 48 ≡ a = let t = rw e at h in cc in omega (arith, (digit-bounds b e).1))
    (λ e. absurd (let t = rw e at h in let z : ◌≡◌ {A = ℕ} 0 1 = cc in omega arith))

pub first-within : (at : ℕ) (s : List ℕ) {a : ℕ} → digit_first (drop at s) ≡ Some a → at < length s
first-within at s h =
    by-test (leb (length s) at)
    (λ e. absurd (let t = rw (drop_of_length-le s (leb-true (length s) at e)) at h in let z : ◌≡◌ {A = ℕ} 0 1 = cc in omega arith))
    (λ e. leb-false (length s) at e)

none-for-zero : (n : ℕ) → zero_for 0 n ≡ n
none-for-zero n = by-test (eqb n 0) (λ e. rw (e, eqb-true n 0 e)) (λ e. rw e)

abbrev digits : ℕ → ℕ → Digits
digits n k = record { size = n; taken = k }

-- a number read from one digit or two
module _ (u : ParseUnit) (least most : ℕ) (some' : 0 < least) (order : least ≤ most) (few : most ≤ 2) where
  abbrev Reads : List ℕ → Digits → Type 0
  Reads s d = taken_unit u 0 (reach (most - least) least s) s ≡ got d.taken (value u (pos d.size))

  one-read : (a : ℕ) (s : List ℕ) → is_digit a ≡ true → least ≤ 1 → (1 < most → digit_at 0 s ≡ false) → Reads (a ∷ s) (digits (a - 48) 1)
  unfolding decimal all_digits
  one-read a s d from free =
      let size : 0 * 10 + (a - 48) ≡ a - 48 = omega arith in
      rw (size, none-for-zero (a - 48)) at (taken-comes-back least most (a ∷ []) s from (omega arith) (omega arith) (rw d) free u 0 (omega (arith, (digit-bounds a d).1)))

  two-read : (a b : ℕ) (s : List ℕ) → is_digit a ≡ true → is_digit b ≡ true → 1 < most → Reads (a ∷ b ∷ s) (digits ((a - 48) * 10 + (b - 48)) 2)
  unfolding decimal all_digits
  two-read a b s d e two =
      let first : 0 * 10 + (a - 48) ≡ a - 48 = omega arith in
      rw (first, none-for-zero ((a - 48) * 10 + (b - 48))) at (taken-comes-back least most (a ∷ b ∷ []) s (omega arith) (omega arith) two (rw (d, e)) (λ h. absurd (omega arith)) u 0 (omega (arith, (digit-bounds a d).1, (digit-bounds b e).1)))

  abbrev pub ReadsAny : List ℕ → Option Digits → Type 0
  ReadsAny s (Some d) = Reads s d
  ReadsAny s None = Unit

  alone-read : (a : ℕ) (s : List ℕ) → is_digit a ≡ true → digit_at 0 s ≡ false → ReadsAny (a ∷ s) (when (eqb least 1) (found (a - 48) 1) None)
  alone-read a s d free =
      by-test (eqb least 1) (λ e. rw e (one-read a s d (omega (arith, eqb-true least 1 e)) (λ _. free))) (λ e. rw e tt)

  second-read : (a : ℕ) (s : List ℕ) → is_digit a ≡ true → 1 < most → ReadsAny (a ∷ s) (second_digits (a - 48) least s)
  unfolding digit_at
  second-read a [] d two = alone-read a [] d refl
  second-read a (b ∷ s) d two = by-test (is_digit b) (λ e. rw e (two-read a b s d e two)) (λ e. rw e (alone-read a (b ∷ s) d e))

  any-read : (s : List ℕ) → ReadsAny s (short_digits least most s)
  unfolding short_digits
  any-read [] = tt
  any-read (a ∷ s) =
      by-test (is_digit a)
      (λ e.
      rw e
      (by-test (eqb most 1)
      (λ one. let single = eqb-true most 1 one in rw one (one-read a s e (omega (arith, single)) (λ k. absurd (omega (arith, single)))))
      (λ more. rw more (second-read a s e (omega (arith, eqb-false most 1 more))))))
      (λ e. rw e tt)

  pub digits-read : (s : List ℕ) {d : Digits} → short_digits least most s ≡ Some d → Reads s d
  digits-read s h = rw h at (any-read s)
