-- Readings whose values are narrowed to 32 bits: the cells and the code of a line.
use Rattle.std.specs.Prelude.{Result, Ok, Err}
use mathlib.Core.List.{List, []}
use mathlib.Core.Path.{◌≡◌, refl, ◌∙◌, sym}
use Prim.Native.Nat.{ℕ}
use lib.IntN.{ℤ, pos}
use lib.ListN.{length, get_or-map}
use Rattle.laws.proofs.Marks.{entries, get-entry}
use Rattle.lists.specs.LineReaders.{HasCells, cell_in}
use Rattle.meaning.specs.Answers.{◌else◌, read_answer, current_year_check, text_check}
use Rattle.meaning.specs.Lists.{cell, code_of}
use Rattle.meaning.specs.Names.{Book}
use Rattle.meaning.specs.Whole.{unit_number, last_of, value_of}
use Rattle.meaning.specs.Writing.{Step}
use Rattle.meaning.specs.declared.Choices.{Choices}
use Rattle.meaning.specs.declared.ParseUnit.{ParseUnit}
use Rattle.meaning.specs.declared.ParseUnit.TheVariants.{Year, Month, DayOfMonth}
use Rattle.meaning.specs.declared.Reading.{Reading}
use Rattle.meaning.specs.declared.Refusal.{Refusal}
use Rattle.reader.proofs.record.Units.{unit-below}
use Rattle.rows.proofs.Cells.{row_of}
use Rattle.rows.specs.Rows.{in_row, Given}
use Rattle.meaning.specs.Prepared.{read_steps, narrow, narrowed}

-- the cells and the code
pub cell-narrowed : (unit : ParseUnit) (r : Result Reading Refusal) → cell unit (narrowed r) ≡ narrow (cell unit r)
unfolding entries last_of
cell-narrowed unit (Ok r) = get_or-map narrow r.values (unit_number unit) (pos 0)
cell-narrowed unit (Err why) = rw (get-entry 15 (value_of []) (pos 0) (unit_number unit) (unit-below unit)) refl

pub code-narrowed : (r : Result Reading Refusal) → code_of (narrowed r) ≡ code_of r
code-narrowed (Ok r) = refl
code-narrowed (Err why) = refl

-- the row of a reading by steps has the cells
module _ (choices : Choices) (book : Book) (ss : List Step) (line : List ℕ) (current : ℤ) {old new : List ℤ} {r : ℕ} (long : length old ≡ 48)
    (given : Given (in_row 48 (read_answer (read_steps (Ok tt) choices book ss line current))) old new r) where
  steps-cell : (unit : ParseUnit) → cell_in unit new ≡ cell unit (narrowed (read_steps (Ok tt) choices book ss line current))
  unfolding read_steps
  steps-cell unit =
      rw (given.row, row_of (current_year_check choices.edition current else text_check line) _ unit old long)
      (sym (cell-narrowed unit (read_steps (Ok tt) choices book ss line current)))

  pub steps_cells : HasCells new r (narrowed (read_steps (Ok tt) choices book ss line current))
  steps_cells =
      record {
        day = steps-cell DayOfMonth;
        month = steps-cell Month;
        year = steps-cell Year;
        number = given.number ∙ sym (code-narrowed (read_steps (Ok tt) choices book ss line current));
      }
