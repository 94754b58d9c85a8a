-- What reading is made of, for the specification, "What each symbol does", column Reads: a reader is given the text that remains
-- and answers how many bytes it takes and what they give, or why it stops and where. Places count from the text that it
-- is given. `do` runs one reader after the other.
use Rattle.std.specs.Prelude.{Bool, true, false, List, [], ◌∷◌, ℕ, zero, suc, ◌+◌, eqb, ltb, ℤ, length, take, drop}
use Rattle.std.proofs.Math.Option.{Option, none, some}
use Prim.Native.Char.{code}
use Rattle.meaning.specs.Bytes.{when, both, digit_at, plus, minus}
use Rattle.meaning.specs.Numerals.{Signed, plus_first, number_of, integer}
use Rattle.meaning.specs.declared.Numeral.{Numeral}
use Rattle.meaning.specs.declared.Numeral.TheVariants.{Count, Year}
use Rattle.meaning.specs.declared.Trouble.{Trouble}
use Rattle.meaning.specs.declared.Trouble.TheVariants.{TooFew, NoNumber, NoName, NoSign, LiteralDiffers, PlusSign}

pub data Got (A : Type 0) : Type 0 where
  got : ℕ → A → Got A  -- how many bytes, and what they give
  stopped : Trouble → ℕ → Got A  -- why, and where

abbrev pub Reader : Type 0 → Type 0
Reader A = List ℕ → Got A

-- the same behind n bytes
abbrev pub behind : {A : Type 0} → ℕ → Got A → Got A
behind n (got m a) = got (n + m) a
behind n (stopped why i) = stopped why (n + i)

abbrev pub go_on : {A B : Type 0} → Got A → (A → Reader B) → Reader B
go_on (got n a) next s = behind n (next a (drop n s))
go_on (stopped why i) next s = stopped why i

abbrev pub ◌>>=◌ : {A B : Type 0} → Reader A → (A → Reader B) → Reader B
◌>>=◌ first next s = go_on (first s) next s

abbrev pub ◌>>◌ : {A B : Type 0} → Reader A → Reader B → Reader B
◌>>◌ first next = first >>= (λ _. next)

infixl 20 ◌>>=◌
infixl 20 ◌>>◌
abbrev pub done : {A : Type 0} → A → Reader A
done a s = got 0 a

-- so many bytes, unseen
unfoldable pub skip : ℕ → Reader Unit
skip k s = when (ltb (length s) k) (stopped TooFew 0) (got k tt)

-- the place of the first byte that is not the one of these that stands there, counted on from i
unfoldable pub first_differing : ℕ → List ℕ → List ℕ → Option ℕ
first_differing i [] s = none
first_differing i (a ∷ w) [] = some i
first_differing i (a ∷ w) (b ∷ s) = elim (eqb a b) [ true ↦ first_differing (suc i) w s | false ↦ some i ]

-- just these bytes: refusal 8 when fewer remain, then 15 at the first that differs
abbrev pub same_by : ℕ → Option ℕ → Got Unit
same_by k none = got k tt
same_by k (some i) = stopped LiteralDiffers i

unfoldable pub same : List ℕ → Reader Unit
unfolding first_differing
same w s = when (ltb (length s) (length w)) (stopped TooFew 0) (same_by (length w) (first_differing 0 w s))

-- "take k": refusal 8 when fewer than k bytes remain, then 19 where the first of them is a plus, then 9 unless they are a
-- number
abbrev pub taken_number : ℕ → Option Signed → Got Signed
taken_number k none = stopped NoNumber 0
taken_number k (some n) = got k n

unfoldable pub take_number : Numeral → ℕ → Reader Signed
unfolding number_of
take_number kind k s =
    when (ltb (length s) k) (stopped TooFew 0)
    (when (plus_first (take k s)) (stopped PlusSign 0) (taken_number k (number_of kind (take k s))))

-- What takes a number. Reading is defined with any: with take_number it is the specification's, with the Rust's, which is in
-- Pluses, it is as it was before refusal 19.
abbrev pub NumberReader : Type 0
NumberReader = Numeral → ℕ → Reader Signed

abbrev pub take_count_with : NumberReader → ℕ → Reader ℕ
take_count_with number k = number Count k >>= λ n. done n.size

abbrev pub take_year_with : NumberReader → ℕ → Reader ℤ
take_year_with number k = number Year k >>= λ n. done (integer n)

abbrev pub take_count : ℕ → Reader ℕ
take_count = take_count_with take_number

abbrev pub take_year : ℕ → Reader ℤ
take_year = take_year_with take_number

-- "greedy": so many bytes, and one more for each digit that follows them, at most `more`
unfoldable pub reach : ℕ → ℕ → List ℕ → ℕ
unfolding digit_at
reach zero i s = i
reach (suc more) i s = elim (digit_at i s) [ true ↦ reach more (suc i) s | false ↦ i ]

-- one reader where the byte at a place is a digit, else another
abbrev pub if_digit : {A : Type 0} → ℕ → Reader A → Reader A → Reader A
if_digit i yes' no' s = when (digit_at i s) (yes' s) (no' s)

-- whether a name begins the text
unfoldable pub begins : List ℕ → List ℕ → Bool
begins [] s = true
begins (a ∷ name) [] = false
begins (a ∷ name) (b ∷ s) = both (eqb a b) (begins name s)

-- "the first name in the table order that begins the text": its place, counted on from i
unfoldable pub first_name : ℕ → List (List ℕ) → Reader ℕ
unfolding begins
first_name i [] s = stopped NoName 0
first_name i (name ∷ names) s = when (begins name s) (got (length name) i) (first_name (suc i) names s)

unfoldable pub match_name : List (List ℕ) → Reader ℕ
unfolding first_name
match_name names s = first_name 0 names s

-- so many bytes that are a name
unfoldable pub letters : ℕ → List (List ℕ) → Reader ℕ
unfolding first_name
letters k names s = when (ltb (length s) k) (stopped TooFew 0) (first_name 0 names (take k s))

-- "take one byte (8), Z gives 0 for X alone, else it must be a sign (11)"
pub data ZoneSign : Type 0 where
  utc ahead behind_utc : ZoneSign

unfoldable pub zone_sign : Bool → Reader ZoneSign
zone_sign z [] = stopped TooFew 0
zone_sign z (b ∷ s) =
    when (both z (eqb b (code "Z"))) (got 1 utc)
    (when (eqb b plus) (got 1 ahead) (when (eqb b minus) (got 1 behind_utc) (stopped NoSign 0)))
