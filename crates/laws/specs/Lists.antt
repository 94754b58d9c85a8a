-- Lines by places, for the laws of lists and their code: how long a text's first line is, where the line at a place ends and the next one
-- starts, and how many newlines there are; the cells of a line; and a line reader's steps.
use Rattle.std.specs.Prelude.{true, false, List, [], ◌∷◌, ℕ, zero, suc, ◌+◌, min, eqb, ℤ, pos, length, get_or, drop, Option, Some, None, Result}
use Rattle.meaning.specs.Bytes.{when}
use Rattle.meaning.specs.Lists.{newline, Rows, cell, code_of}
use Rattle.meaning.specs.declared.LineRead.{LineRead}
use Rattle.meaning.specs.declared.ParseUnit.TheVariants.{Year, Month, DayOfMonth}
use Rattle.meaning.specs.declared.Reading.{Reading}
use Rattle.meaning.specs.declared.Refusal.{Refusal}

-- the bytes before the first newline, or all
unfoldable pub line_length : List ℕ → ℕ
line_length [] = 0
line_length (b ∷ s) = elim (eqb b newline) [ true ↦ 0 | false ↦ suc (line_length s) ]

abbrev pub line_end : List ℕ → ℕ → ℕ
line_end s at = at + line_length (drop at s)

-- behind the newline of a line that ends at a place, or where the text ends
abbrev pub next_line : List ℕ → ℕ → ℕ
next_line s end = min (suc end) (length s)

unfoldable pub newlines : List ℕ → ℕ
newlines [] = 0
newlines (b ∷ s) = when (eqb b newline) 1 0 + newlines s

-- a line's cells: those at a place of the rows, and those of a reading
pub record Cells : Type 0 where
  pub day : ℤ
  pub month : ℤ
  pub year : ℤ
  pub code : ℕ

abbrev pub cells_at : ℕ → Rows → Cells
cells_at i rows =
    record {
      day = get_or rows.days i (pos 0);
      month = get_or rows.months i (pos 0);
      year = get_or rows.years i (pos 0);
      code = get_or rows.codes i 0;
    }

abbrev pub cells_of : Result Reading Refusal → Cells
cells_of r = record { day = cell DayOfMonth r; month = cell Month r; year = cell Year r; code = code_of r }

-- what the line reader gives, step by step, from a place on, in at most so many steps
unfoldable pub stepped : (ℕ → Option LineRead) → ℕ → ℕ → List (Result Reading Refusal)
stepped at_place zero at = []
stepped at_place (suc steps) at =
    elim (at_place at) [ Some line ↦ line.reading ∷ stepped at_place steps line.next | None ↦ [] ]
