-- A plus in front of a number, by samples in the current year 2025: refusal 19 behind 8 and before 9, with the part and the place
-- of the plus; a number of no bytes has none in front, what is skipped is no number, and a zone's sign is none.
use mathlib.Core.List.{List, [], ◌∷◌}
use mathlib.Core.Path.{refl}
use Prim.Native.Nat.{ℕ}
use Prim.Native.String.{String}
use lib.IntN.{pos}
use lib.ListN.{replicate}
use Rattle.meaning.specs.Answers.{number, details, Answer, accepted, read_answer, offset_answer}
use Rattle.meaning.specs.Bytes.{bytes}
use Rattle.meaning.specs.Names.{english}
use Rattle.meaning.specs.Whole.{plain, read, parse_offset}
use Rattle.meaning.specs.declared.Pair.TheVariants.{Full}
use Rattle.meaning.proofs.Tables.{Sample, ◌↦'◌, Answered}

-- reading a text by a pattern, and as an offset
pub data Question : Type 0 where
  reading : String → String → Question
  offset : String → Question

pub asked : Question → Answer
unfolding read parse_offset
asked (reading p s) = read_answer (read (plain Full) english (bytes p) (bytes s) (pos 2025))
asked (offset s) = offset_answer (parse_offset (bytes s))

-- a refusal with a part and a place
abbrev refused : ℕ → ℕ → ℕ → Answer
refused n part place = record { number = n; values = pos part ∷ pos place ∷ [] }

pub table : List (Sample Question Answer)
table =
    reading "dd" "+" ↦' refused 8 0 0
    ∷ reading "dd" "+a" ↦' refused 19 0 0
    ∷ reading "dd" "a+" ↦' refused 9 0 0
    ∷ reading "d/M" "3/+" ↦' refused 19 2 2
    ∷ reading "yyyyy" "+2025" ↦' refused 19 0 0
    ∷ reading "yy" "+5" ↦' refused 19 0 0
    ∷ reading "y" "+5" ↦' refused 9 0 0
    ∷ reading "w" "+5" ↦' accepted (pos 2 ∷ replicate 47 (pos 0))
    ∷ reading "X" "++530" ↦' refused 19 0 1
    ∷ reading "XX" "+05+3" ↦' refused 19 0 3
    ∷ offset "++5:30" ↦' refused 19 0 1
    ∷ offset "+aa:+3" ↦' refused 9 0 1
    ∷ offset "+99:+3" ↦' refused 19 0 4
    ∷ []

pub samples : Answered asked table
unfolding table asked english bytes number details
samples = refl
