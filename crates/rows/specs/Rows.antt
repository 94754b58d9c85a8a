-- The specification's answers as numbers: what a function returns, and the numbers that it lays over the start of a lent row.
use Rattle.std.specs.Prelude.{List, [], ◌∷◌, ◌++◌, map, ◌≡◌, ℕ, ◌-◌, ℤ, pos, negsuc, length, replicate, Option, Some, None, Result, Ok, Err}
use Rattle.std.proofs.lemmas.List.Edits.{sets}
use Rattle.meaning.specs.Answers.{Answer, read_answer, bytes_check}
use Rattle.meaning.specs.Reading.{StepUnit, itself, symbol, step_unit}
use Rattle.meaning.specs.Whole.{unit_number}
use Rattle.meaning.specs.Writing.{Step, steps}
use Rattle.meaning.specs.Results.{Checked}
use Rattle.meaning.specs.declared.Kind.{Kind}
use Rattle.meaning.specs.declared.Kind.TheVariants.{Run, Quotes, Quoted, Open}
use Rattle.meaning.specs.declared.LineRead.{LineRead}
use Rattle.meaning.specs.declared.Pair.TheVariants.{Full}
use Rattle.meaning.specs.declared.ParseUnit.{ParseUnit}
use Rattle.meaning.specs.declared.Part.{Part}
use Rattle.meaning.specs.declared.Refusal.{Refusal}
use Rattle.meaning.specs.declared.Split.{Split}

-- numbers lie over the start of the old row, and the rest is as it was
abbrev pub laid : List ℤ → List ℤ → List ℤ
laid row old = sets old 0 row

-- an answer is given: r is returned, and the row afterwards
pub record Given (answer : Answer) (old new : List ℤ) (r : ℕ) : Type 0 where
  pub number : r ≡ answer.number
  pub row : new ≡ laid answer.values old

-- an answer in a row of so many numbers: its values, then zeros
abbrev pub in_row : ℕ → Answer → Answer
in_row n a = record { number = a.number; values = a.values ++ replicate (n - length a.values) (pos 0) }

-- a line in a row of 51 numbers: where it starts and ends and the next one starts, then its reading; where there is none, 103 and no
-- number
abbrev pub in_line : Option LineRead → Answer
in_line (Some l) =
    record { number = (read_answer l.reading).number; values = pos l.start ∷ pos l.end ∷ pos l.next ∷ (in_row 48 (read_answer l.reading)).values }
in_line None = record { number = 103; values = [] }

-- kind, start and length of each of these parts
abbrev pub kind_number : Kind → ℕ
kind_number Run = 0
kind_number Quotes = 1
kind_number Quoted = 2
kind_number Open = 3

unfoldable pub part_numbers : List Part → List ℤ
part_numbers [] = []
part_numbers (p ∷ ps) = pos (kind_number p.kind) ∷ pos p.start ∷ pos p.length ∷ part_numbers ps

-- those of all 256 entries, or none
abbrev pub split_numbers : Result Split Refusal → List ℤ
split_numbers (Ok s) = part_numbers s.parts
split_numbers (Err why) = []

-- what a part is: -1 where it stands for itself, 15 for a symbol that carries nothing, else the number of the unit
abbrev pub carried_entry : Option ParseUnit → ℤ
carried_entry None = pos 15
carried_entry (Some u) = pos (unit_number u)

abbrev pub unit_entry : StepUnit → ℤ
unit_entry itself = negsuc 0
unit_entry (symbol unit) = carried_entry unit

abbrev pub step_entry : Step → ℤ
step_entry step = unit_entry (step_unit step)

abbrev pub entries_by : Checked → List ℤ → List ℤ
entries_by (Ok _) es = es ++ replicate (256 - length es) (negsuc 0)
entries_by (Err why) es = []

-- that of each part of a pattern, then -1, 256 entries in all; or none
unfoldable pub unit_entries : List ℕ → List ℤ
unfolding bytes_check steps
unit_entries p = entries_by (bytes_check p) (map step_entry (steps Full p))
