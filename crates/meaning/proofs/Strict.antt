-- A strict reading, by samples in the current year 2025: each literal byte is compared, behind 8 for the whole literal; nothing may
-- be left over, behind the last part; symbols that skip are no literals.
use mathlib.Core.List.{List, [], ◌∷◌, ◌++◌}
use mathlib.Core.Bool.{true}
use mathlib.Core.Path.{refl}
use Prim.Native.Nat.{ℕ, ◌+◌}
use Prim.Native.String.{String}
use lib.IntN.{ℤ, pos}
use lib.ListN.{replicate}
use Rattle.meaning.specs.Answers.{number, details, Answer, accepted, read_answer}
use Rattle.meaning.specs.Bytes.{bytes}
use Rattle.meaning.specs.Names.{english}
use Rattle.meaning.specs.Readers.{take_number}
use Rattle.meaning.specs.Whole.{read}
use Rattle.meaning.specs.declared.Edition.TheVariants.{First}
use Rattle.meaning.specs.declared.Pair.{Pair}
use Rattle.meaning.specs.declared.Pair.TheVariants.{Full, Date}
use Rattle.meaning.proofs.Tables.{Sample, ◌↦'◌, Answered}

pub record Question : Type 0 where
  pub pair : Pair
  pub pattern : String
  pub text : String

abbrev full : String → String → Question
full p s = record { pair = Full; pattern = p; text = s }

abbrev date : String → String → Question
date p s = record { pair = Date; pattern = p; text = s }

pub asked : Question → Answer
unfolding read
asked q = read_answer (read (record { pair = q.pair; strict = true; edition = First }) english (bytes q.pattern) (bytes q.text) (pos 2025))

-- a refusal with a part and a place, what is left over at a place, and so many bytes that carry nothing
abbrev refused : ℕ → ℕ → ℕ → Answer
refused n part place = record { number = n; values = pos part ∷ pos place ∷ [] }

abbrev left : ℕ → Answer
left place = record { number = 16; values = pos place ∷ [] }

abbrev passed : ℕ → Answer
passed n = accepted (pos n ∷ replicate 47 (pos 0))

-- a day, of which the digit stands at a place, from so many bytes
abbrev by_day : ℕ → List ℤ
by_day n = pos 0 ∷ pos 0 ∷ pos n ∷ replicate 12 (pos 0)

abbrev day : ℕ → ℕ → ℕ → Answer
day n d place = accepted (pos n ∷ pos 4 ∷ pos 1 ∷ by_day d ++ by_day place ++ by_day (place + 1))

pub table : List (Sample Question Answer)
table =
    full "" "" ↦' passed 0
    ∷ full "" "x" ↦' left 0
    ∷ full "d/" "3/" ↦' day 2 3 0
    ∷ full "d/" "3-" ↦' refused 15 1 1
    ∷ full "d" "3-" ↦' left 1
    ∷ full "'ab'd" "a" ↦' refused 8 0 0
    ∷ full "'ab'd" "ax3" ↦' refused 15 0 1
    ∷ full "d//" "3/-4" ↦' refused 15 1 2
    ∷ full "'a''b'" "a'b" ↦' passed 3
    ∷ full "'a''b'" "a''b" ↦' refused 15 0 2
    ∷ full "'a''" "a'" ↦' passed 2
    ∷ full "'a''" "ab" ↦' refused 15 0 1
    ∷ full "''" "x" ↦' refused 15 0 0
    ∷ full "dM" "3x4" ↦' refused 9 1 1
    ∷ full "qd" "x3" ↦' day 2 3 1
    ∷ date "Hd" "H3" ↦' day 2 3 1
    ∷ date "Hd" "13" ↦' refused 15 0 0
    ∷ []

pub samples : Answered asked table
unfolding table asked english bytes number details take_number
samples = refl
