-- The row of one line's reading by a pattern: its cells, which 32 bits hold.
use mathlib.Core.List.{List}
use mathlib.Core.Path.{◌≡◌}
use Prim.Native.Nat.{ℕ, ◌<◌}
use native.Mathlib.Omega.{arith}
use lib.IntN.{ℤ}
use lib.ListN.{length}
use Rattle.laws.proofs.DayNumbers.{is-short}
use Rattle.laws.proofs.Values.{value-short, few-months}
use Rattle.laws.specs.CalendarLine.{Short}
use Rattle.lists.specs.LineReaders.{HasCells, cell_in}
use Rattle.meaning.specs.Answers.{read_answer}
use Rattle.meaning.specs.Lists.{cell}
use Rattle.meaning.specs.OpenedBooks.{book_in}
use Rattle.meaning.specs.Prepared.{narrow}
use Rattle.meaning.specs.Whole.{unit_number, read}
use Rattle.meaning.specs.declared.Choices.{Choices}
use Rattle.meaning.specs.declared.ParseUnit.{ParseUnit}
use Rattle.meaning.specs.declared.ParseUnit.TheVariants.{Year, Month, DayOfMonth}
use Rattle.rows.proofs.Cells.{row-cell}
use Rattle.rows.specs.Rows.{in_row, Given}

pub narrow-same : (z : ℤ) → Short z → narrow z ≡ z
narrow-same z h = rw (is-short z h)

module _ (choices : Choices) (book p line : List ℕ) (current : ℤ) {old new : List ℤ} {r : ℕ} (long : length old ≡ 48)
    (given : Given (in_row 48 (read_answer (read choices (book_in book) p line current))) old new r) where
  cell-of : (unit : ParseUnit) → unit_number unit < 14 → cell_in unit new ≡ cell unit (read choices (book_in book) p line current)
  cell-of unit h =
      rw (given.row, row-cell choices (book_in book) p line current unit old long)
      (narrow-same (cell unit (read choices (book_in book) p line current)) (value-short choices (book_in book) (few-months book) p line current (unit_number unit) h))

  pub pattern-cells : HasCells new r (read choices (book_in book) p line current)
  pattern-cells =
      record {
        day = cell-of DayOfMonth (omega arith);
        month = cell-of Month (omega arith);
        year = cell-of Year (omega arith);
        number = given.number;
      }
