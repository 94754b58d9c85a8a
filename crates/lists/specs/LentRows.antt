-- The four rows that are lent to a list: what is in them, that they stay the same rows, and a line's cells laid in them.
use Rattle.std.specs.Prelude.{List, ◌≡◌, ◌<◌, ℕ, ℤ, length, slice_set}
use Rattle.lists.specs.LineReaders.{cell_in}
use Rattle.lists.specs.declared.cells.LentRows.{LentRows}
use Rattle.meaning.specs.Lists.{Rows, rows_of}
use Rattle.meaning.specs.declared.ParseUnit.TheVariants.{Year, Month, DayOfMonth}

-- what is in the rows
abbrev pub rows_in : LentRows → Rows
rows_in lent = rows_of lent.days.now lent.months.now lent.years.now lent.codes.now

-- the rows are the same four, whatever is in them
pub record SameRows (old new : LentRows) : Type 0 where
  pub days : new.days.ghost_name ≡ old.days.ghost_name
  pub months : new.months.ghost_name ≡ old.months.ghost_name
  pub years : new.years.ghost_name ≡ old.years.ghost_name
  pub codes : new.codes.ghost_name ≡ old.codes.ghost_name

-- each row has a cell i
pub record HasCell (i : ℕ) (rows : Rows) : Type 0 where
  pub days : i < length rows.days
  pub months : i < length rows.months
  pub years : i < length rows.years
  pub codes : i < length rows.codes

-- cell i of each row from a line's code and the row of its reading
abbrev pub with_line : ℕ → ℕ → List ℤ → Rows → Rows
with_line i code row rows =
    rows_of (slice_set rows.days i (cell_in DayOfMonth row)) (slice_set rows.months i (cell_in Month row))
    (slice_set rows.years i (cell_in Year row)) (slice_set rows.codes i code)
