-- What lays the lines of a list takes a function that reads one line: into a row of 48 numbers, with a code. What is asked of it, and
-- which reading it stands for.
use Rattle.std.specs.Prelude.{List, ◌≡◌, ℕ, ◌+◌, ℤ, pos, length, get_or, Result}
use Rattle.std.specs.Borrow.{Bor, MutBor}
use Rattle.meaning.specs.Answers.{refuse_unless}
use Rattle.meaning.specs.Lists.{Rows, lines, hold, cell, code_of}
use Rattle.meaning.specs.Prepared.{narrow}
use Rattle.meaning.specs.Whole.{unit_number}
use Rattle.meaning.specs.Results.{Checked}
use Rattle.meaning.specs.declared.ParseUnit.{ParseUnit}
use Rattle.meaning.specs.declared.ParseUnit.TheVariants.{Year, Month, DayOfMonth}
use Rattle.meaning.specs.declared.Reading.{Reading}
use Rattle.meaning.specs.declared.Refusal.{Refusal}
use Rattle.meaning.specs.declared.Refusal.TheVariants.{ShortRow}

-- it may be called at any line, and any row so long
abbrev pub TakesLines : (Bor (List ℕ) → MutBor (List ℤ) → Type 0) → Type 0
TakesLines takes = (line : Bor (List ℕ)) (row : MutBor (List ℤ)) → length row.now ≡ 48 → takes line row

-- the value of a unit in a row, for a cell: 0 where 32 bits do not hold it
abbrev pub cell_in : ParseUnit → List ℤ → ℤ
cell_in unit row = narrow (get_or row (3 + unit_number unit) (pos 0))

-- a row and a code have the four cells of a reading
pub record HasCells (row : List ℤ) (code : ℕ) (r : Result Reading Refusal) : Type 0 where
  pub day : cell_in DayOfMonth row ≡ cell DayOfMonth r
  pub month : cell_in Month row ≡ cell Month r
  pub year : cell_in Year row ≡ cell Year r
  pub number : code ≡ code_of r

-- whatever it gives of a line, and leaves in the row, has the cells of this reading of the line
abbrev pub StandsFor : (Bor (List ℕ) → MutBor (List ℤ) → ℕ → MutBor (List ℤ) → Type 0) → (List ℕ → Result Reading Refusal) → Type 0
StandsFor gives reading =
    (line : Bor (List ℕ)) (row left : MutBor (List ℤ)) (code : ℕ) → length row.now ≡ 48 → gives line row code left
    → HasCells left.now code (reading line.now)

-- 24, where a row is shorter than the lines
abbrev pub rows_check : List ℕ → Rows → Checked
rows_check s rows = refuse_unless (hold (length (lines s)) rows) ShortRow
