-- The second edition, by samples: single M takes a second digit, yy the one year of its window, 14 for the first eighty years; and the
-- same texts in the first.
use Rattle.std.specs.Prelude.{Result, Ok, Err}
use mathlib.Core.Bool.{false}
use mathlib.Core.List.{List, [], ◌∷◌}
use mathlib.Core.Path.{refl}
use Prim.Native.Nat.{ℕ}
use Prim.Native.String.{String}
use lib.IntN.{ℤ, pos, neg_ℤ}
use lib.ListN.{take}
use Rattle.meaning.specs.Answers.{number, details, Answer, accepted, refused}
use Rattle.meaning.specs.Bytes.{bytes}
use Rattle.meaning.specs.Names.{english}
use Rattle.meaning.specs.Readers.{take_number}
use Rattle.meaning.specs.Whole.{read}
use Rattle.meaning.specs.declared.Edition.{Edition}
use Rattle.meaning.specs.declared.Edition.TheVariants.{First, Second}
use Rattle.meaning.specs.declared.Pair.TheVariants.{Full}
use Rattle.meaning.specs.declared.Reading.{Reading}
use Rattle.meaning.specs.declared.Refusal.{Refusal}
use Rattle.meaning.proofs.Tables.{Sample, ◌↦'◌, Answered}

pub record Question : Type 0 where
  pub edition : Edition
  pub current : ℕ
  pub pattern : String
  pub text : String

abbrev first : ℕ → String → String → Question
first current p s = record { edition = First; current = current; pattern = p; text = s }

abbrev second : ℕ → String → String → Question
second current p s = record { edition = Second; current = current; pattern = p; text = s }

-- the bytes read, and year, month and day
abbrev date_of : Result Reading Refusal → Answer
date_of (Ok r) = accepted (pos r.taken ∷ take 3 r.values)
date_of (Err why) = refused why

pub asked : Question → Answer
unfolding read
asked q =
    date_of
    (read (record { pair = Full; strict = false; edition = q.edition }) english (bytes q.pattern) (bytes q.text) (pos q.current))

abbrev date : ℕ → ℕ → ℕ → ℕ → Answer
date n y m d = accepted (pos n ∷ pos y ∷ pos m ∷ pos d ∷ [])

abbrev year_at : ℕ → ℤ → Answer
year_at n y = accepted (pos n ∷ y ∷ pos 0 ∷ pos 0 ∷ [])

abbrev no_year : ℕ → Answer
no_year n = record { number = 14; values = pos n ∷ [] }

pub table : List (Sample Question Answer)
table =
    first 2025 "d/M" "3/12" ↦' date 3 0 1 3
    ∷ second 2025 "d/M" "3/12" ↦' date 4 0 12 3
    ∷ second 2025 "d/M" "3/1" ↦' date 3 0 1 3
    ∷ second 2025 "M/d" "1/2" ↦' date 3 0 1 2
    ∷ second 2025 "Md" "123" ↦' date 3 0 12 3
    ∷ second 2025 "MM" "123" ↦' date 2 0 12 0
    ∷ first 2025 "yy" "44" ↦' year_at 2 (pos 2044)
    ∷ first 2025 "yy" "45" ↦' year_at 2 (pos 2045)
    ∷ second 2025 "yy" "44" ↦' year_at 2 (pos 2044)
    ∷ second 2025 "yy" "45" ↦' year_at 2 (pos 1945)
    ∷ second 2000 "yy" "00" ↦' year_at 2 (pos 2000)
    ∷ second 1999 "yy" "18" ↦' year_at 2 (pos 2018)
    ∷ second 1999 "yy" "19" ↦' year_at 2 (pos 1919)
    ∷ second 81 "yy" "00" ↦' year_at 2 (pos 100)
    ∷ second 81 "yy" "01" ↦' year_at 2 (pos 1)
    ∷ second 9999 "yy" "18" ↦' year_at 2 (pos 10018)
    ∷ second 2025 "yy" "-45" ↦' year_at 3 (neg_ℤ (pos 45))
    ∷ first 80 "yy" "80" ↦' year_at 2 (pos 80)
    ∷ second 80 "yy" "80" ↦' no_year 80
    ∷ second 80 "d" "3" ↦' no_year 80
    ∷ second 10000 "d" "3" ↦' no_year 10000
    ∷ []

pub samples : Answered asked table
unfolding table asked english bytes number details take_number
samples = refl
