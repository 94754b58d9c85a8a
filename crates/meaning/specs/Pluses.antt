-- Reading as the Rust has it, where a number may begin with a plus: reading as it was before refusal 19, kept to say which texts
-- demand 2 excepts. The code cites nothing of this; the theorems are in `Pluses` of laws.
use Rattle.std.specs.Prelude.{Bool, false, List, [], ◌∷◌, ◌≡◌, ℕ, eqb, leb, ltb, ℤ, length, get_or, take, Result, Err}
use Rattle.std.proofs.Math.Option.{Option, none}
use Rattle.meaning.specs.Bytes.{when, both, plus}
use Rattle.meaning.specs.Names.{Book}
use Rattle.meaning.specs.Numerals.{Signed, plus_first, sized, number_of}
use Rattle.meaning.specs.Readers.{stopped, NumberReader, taken_number}
use Rattle.meaning.specs.Whole.{read_with, parse_offset_with}
use Rattle.meaning.specs.declared.Choices.{Choices}
use Rattle.meaning.specs.Results.{Offset}
use Rattle.meaning.specs.declared.Numeral.{Numeral}
use Rattle.meaning.specs.declared.Reading.{Reading}
use Rattle.meaning.specs.declared.Refusal.{Refusal}
use Rattle.meaning.specs.declared.Refusal.TheVariants.{InPart}
use Rattle.meaning.specs.declared.Trouble.TheVariants.{TooFew, PlusSign}

-- a number, where a plus in front of its digits is taken as a part of it
unfoldable pub number_with_plus : Numeral → List ℕ → Option Signed
unfolding sized number_of
number_with_plus kind [] = none
number_with_plus kind (b ∷ s) = when (eqb b plus) (sized kind false s) (number_of kind (b ∷ s))

unfoldable pub take_number_with_plus : NumberReader
unfolding number_with_plus
take_number_with_plus kind k s = when (ltb (length s) k) (stopped TooFew 0) (taken_number k (number_with_plus kind (take k s)))

abbrev pub read_with_plus : Choices → Book → List ℕ → List ℕ → ℤ → Result Reading Refusal
read_with_plus = read_with take_number_with_plus

abbrev pub parse_offset_with_plus : List ℕ → Offset
parse_offset_with_plus = parse_offset_with take_number_with_plus

-- whether a number of k bytes would begin with a plus: they are there, and a plus is the first
abbrev pub plus_taken : ℕ → List ℕ → Bool
plus_taken k s = both (leb k (length s)) (plus_first (take k s))

-- what is excepted: a text that is refused 19, where it has a plus
pub record RefusedAtPlus (s : List ℕ) (r : Result Reading Refusal) : Type 0 where
  pub part : ℕ
  pub place : ℕ
  pub refused : r ≡ Err (InPart PlusSign part place)
  pub there : get_or s place 0 ≡ plus

-- the same of parse_offset, with the place of the hour or of the minute
pub record OffsetAtPlus (s : List ℕ) (place : ℕ) (o : Offset) : Type 0 where
  pub refused : o ≡ Err (InPart PlusSign 0 place)
  pub there : get_or s place 0 ≡ plus
