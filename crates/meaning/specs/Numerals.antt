-- Specification, "What each symbol does", how a number is read: at least one digit and nothing else, for a year with a `-`
-- allowed in front and held to 32 signed bits. Any other number has at most nine digits here and is held, as in the Rust, to
-- 32 unsigned bits. That a plus in front is refused by itself is in Readers.
use Rattle.std.specs.Prelude.{Bool, true, false, List, [], ◌∷◌, ℕ, ◌+◌, ◌*◌, ◌-◌, eqb, leb, ℤ, pos, neg_ℤ}
use Rattle.std.proofs.Math.Option.{Option, none, some}
use Prim.Native.Char.{code}
use Rattle.meaning.specs.Bytes.{when, both, is_digit, plus, minus}
use Rattle.meaning.specs.declared.Numeral.{Numeral}
use Rattle.meaning.specs.declared.Numeral.TheVariants.{Count, Year}
use Rattle.meaning.specs.declared.Sign.{Sign}
use Rattle.meaning.specs.declared.Sign.TheVariants.{Minus, Bare}

unfoldable pub all_digits : List ℕ → Bool
all_digits [] = true
all_digits (b ∷ s) = both (is_digit b) (all_digits s)

-- the number that digits stand for, behind those that gave n
unfoldable pub decimal : ℕ → List ℕ → ℕ
decimal n [] = n
decimal n (b ∷ s) = decimal (n * 10 + (b - code "0")) s

-- a number's sign and size
pub record Signed : Type 0 where
  pub negative : Bool
  pub size : ℕ

abbrev pub integer : Signed → ℤ
integer n = when n.negative (neg_ℤ (pos n.size)) (pos n.size)

-- what the first byte says of the sign
unfoldable pub sign_of : Numeral → ℕ → Sign
sign_of Count b = Bare
sign_of Year b = when (eqb b minus) Minus Bare

-- whether the first of these bytes is a plus
abbrev pub plus_first : List ℕ → Bool
plus_first [] = false
plus_first (b ∷ s) = eqb b plus

-- the largest size that fits
abbrev pub largest : Numeral → Bool → ℕ
largest Count negative = 4294967295
largest Year false = 2147483647
largest Year true = 2147483648

-- at least one digit, nothing else, and a size that fits
unfoldable pub sized : Numeral → Bool → List ℕ → Option Signed
unfolding all_digits decimal
sized kind negative [] = none
sized kind negative (b ∷ s) =
    when (both (all_digits (b ∷ s)) (leb (decimal 0 (b ∷ s)) (largest kind negative)))
    (some (record { negative = negative; size = decimal 0 (b ∷ s) })) none

abbrev pub sized_by : Numeral → Sign → ℕ → List ℕ → Option Signed
sized_by kind Minus b s = sized kind true s
sized_by kind Bare b s = sized kind false (b ∷ s)

-- the number that these bytes are
unfoldable pub number_of : Numeral → List ℕ → Option Signed
unfolding sign_of sized
number_of kind [] = none
number_of kind (b ∷ s) = sized_by kind (sign_of kind b) b s
