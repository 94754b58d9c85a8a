-- Digits and numbers come back: what `num` writes is read as the number it is of, and a reader of least to most bytes takes
-- just its digits where there are as many as it may take or no digit follows.
use Rattle.std.specs.Prelude.{None}
use mathlib.Core.Bool.{Bool, true, false}
use mathlib.Core.List.{List, [], ◌∷◌, ◌++◌}
use mathlib.Core.Option.{some}
use mathlib.Core.Path.{◌≡◌, refl, ◌∙◌}
use Prim.Native.Nat.{ℕ, zero, suc, ◌-◌, ◌≤◌, ◌<◌}
use native.Mathlib.Nat.{add-zero}
use native.Mathlib.Omega.{arith}
use lib.IntN.{pos, nat_abs}
use lib.ListN.{length, take, length-append}
use lib.Seq.{take-append_seam}
use borrow.Author.Tests.{le-leb, ne_eqb}
use Rattle.meaning.specs.Bytes.{is_digit, digit_at}
use Rattle.meaning.specs.Numerals.{Signed, integer, all_digits, decimal, sign_of, sized, largest, number_of}
use Rattle.meaning.specs.Readers.{got, reach}
use Rattle.meaning.specs.Reading.{value, zero_for, passed, taken_unit}
use Rattle.meaning.specs.declared.Numeral.{Numeral}
use Rattle.meaning.specs.declared.Numeral.TheVariants.{Count, Year}
use Rattle.meaning.specs.declared.ParseUnit.{ParseUnit}
use Rattle.meaning.specs.declared.Sign.TheVariants.{Bare}
use Rattle.laws.proofs.Digits.{digit-bounds, digit-in, digit-behind}
use Rattle.laws.proofs.Readers.{skip_goes_on, take-goes-on, reach-exact}
use Rattle.laws.proofs.Tests.{both_true}

-- the size of a number that has one
pub size-alone : (negative : Bool) (n : ℕ) → nat_abs (integer (record { negative = negative; size = n })) ≡ n
size-alone false n = refl
size-alone true zero = refl
size-alone true (suc n) = refl

-- a digit is no sign
pub digit-is-bare : (kind : Numeral) (b : ℕ) → is_digit b ≡ true → sign_of kind b ≡ Bare
unfolding sign_of
digit-is-bare Count b h = refl
digit-is-bare Year b h = let d = digit-bounds b h in rw (ne_eqb b 45 (λ e. omega arith))

pub sized-digits : (kind : Numeral) (negative : Bool) (s : List ℕ) → 0 < length s → all_digits s ≡ true
    → decimal 0 s ≤ largest kind negative → sized kind negative s ≡ some (record { negative = negative; size = decimal 0 s })
unfolding sized
sized-digits kind negative [] some' all h = absurd (omega arith)
sized-digits kind negative (b ∷ s) some' all h = rw (all, le-leb (decimal 0 (b ∷ s)) (largest kind negative) h)

-- digits are read as the number that they stand for
pub digits-come-back : (kind : Numeral) (s : List ℕ) → 0 < length s → all_digits s ≡ true → decimal 0 s ≤ largest kind false
    → number_of kind s ≡ some (record { negative = false; size = decimal 0 s })
unfolding number_of all_digits
digits-come-back kind [] some' all h = absurd (omega arith)
digits-come-back kind (b ∷ s) some' all h =
    rw (digit-is-bare kind b (both_true (is_digit b) (all_digits s) all).0) (sized-digits kind false (b ∷ s) some' all h)

-- a reader of least to most bytes, on the digits s before r
module _ (least most : ℕ) (s r : List ℕ) (from : least ≤ length s) (some' : 0 < length s) (up_to : length s ≤ most) (all : all_digits s ≡ true) (free : length s < most → digit_at 0 r ≡ false) where
  pub reaches : reach (most - least) least (s ++ r) ≡ length s
  reaches =
      reach-exact (most - least) least (s ++ r) (length s) from (omega arith) (λ j k. digit-in s r all j k)
      (λ k. digit-behind s r ∙ free (omega arith))

  pub taken-comes-back : (u : ParseUnit) (z : ℕ) → decimal 0 s ≤ 4294967295
      → taken_unit u z (reach (most - least) least (s ++ r)) (s ++ r) ≡ got (length s) (value u (pos (zero_for z (decimal 0 s))))
  taken-comes-back u z small =
      let n : Signed = record { negative = false; size = decimal 0 s } in
      let number : number_of Count (take (length s) (s ++ r)) ≡ some n = rw take-append_seam (digits-come-back Count s some' all small) in
      rw (reaches, take-goes-on Count (length s) (s ++ r) n (simp length-append (omega arith)) number) (simp add-zero)

  pub skipped-comes-back : passed (reach (most - least) least (s ++ r)) (s ++ r) ≡ got (length s) None
  skipped-comes-back =
      rw (reaches, skip_goes_on (length s) (s ++ r) (simp length-append (omega arith)), add-zero)
