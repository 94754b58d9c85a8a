-- Bytes and decimal text, for the specification, "What each symbol does": a choice by a test, the bytes of a quoted text, what
-- is a digit, and "num k". How numbers are read is in Numerals.
use Rattle.std.specs.Prelude.{Bool, true, false, List, [], ◌∷◌, ◌++◌, ℕ, zero, suc, ◌+◌, ◌/◌, ◌%◌, max, leb, ltb, get_or}
use Prim.Native.Char.{code}
use Prim.Native.String.{String, [] as []ˢ, ◌∷◌ as ◌∷ˢ◌}

-- the first where the test holds, else the second
abbrev pub when : {A : Type 0} → Bool → A → A → A
when true a b = a
when false a b = b

abbrev pub both : Bool → Bool → Bool
both true b = b
both false b = false

-- the bytes of a quoted text
unfoldable pub bytes : String → List ℕ
bytes []ˢ = []
bytes (c ∷ˢ s) = code c ∷ bytes s

abbrev pub quote : ℕ
quote = code "'"

abbrev pub plus : ℕ
plus = code "+"

abbrev pub minus : ℕ
minus = code "-"

abbrev pub colon : ℕ
colon = code ":"

abbrev pub is_digit : ℕ → Bool
is_digit b = both (leb (code "0") b) (leb b (code "9"))

-- whether the byte at a place, from 0, is there and is a digit
unfoldable pub digit_at : ℕ → List ℕ → Bool
digit_at i s = is_digit (get_or s i 0)

-- the last w decimal digits of n
unfoldable pub digits : ℕ → ℕ → List ℕ
digits zero n = []
digits (suc w) n = digits w (n / 10) ++ ((code "0" + n % 10) ∷ [])

-- how many decimal digits n has; the first argument only bounds the steps
unfoldable pub width_in : ℕ → ℕ → ℕ
width_in zero n = 1
width_in (suc steps) n = elim (ltb n 10) [ true ↦ 1 | false ↦ suc (width_in steps (n / 10)) ]

unfoldable pub width : ℕ → ℕ
unfolding width_in
width n = width_in n n

-- "num k": decimal, padded with zeros to at least k digits
unfoldable pub num : ℕ → ℕ → List ℕ
unfolding digits width
num k n = digits (max k (width n)) n
