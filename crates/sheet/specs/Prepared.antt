-- Request [11], for C and Rust: what the functions that prepare a pattern and those that use its row promise. Where a row is not that of a
-- prepared pattern, r is 105, and nothing is altered.
use Rattle.std.specs.Prelude.{List, ◌≡◌, ℕ, ℤ}
use Rattle.meaning.specs.Bytes.{when, both}
use Rattle.meaning.specs.Lists as lists
use Rattle.meaning.specs.declared.Fields.{Fields}
use Rattle.prepared.specs.PreparedRows.{prepared_row}
use Rattle.prepared.specs.Uses.{prepared_answer, prepared_wrote, prepared_output, prepared_read, prepared_verdict, prepared_listed, prepared_rows}
use Rattle.rows.specs.Rows.{in_row, Given}
use Rattle.sheet.specs.Numbers.{pair_of, edition_of, choices_of, of_reading, of_check, is_book}
use Rattle.sheet.specs.Sheet.{has, if_room, if_choices, if_book}

-- a pattern prepared into a row
abbrev pub SheetPrepares : ℕ → List ℕ → List ℕ → List ℤ → ℕ → List ℕ → List ℤ → Type 0
SheetPrepares n p row answer r row_after answer_after =
    Given (if_choices (of_reading n) (if_room (both (has 259 row) (has 2 answer)) (in_row 2 (prepared_answer (pair_of n) p)))) answer answer_after r
    × (row_after ≡ when (both (of_reading n) (both (has 259 row) (has 2 answer))) (prepared_row (pair_of n) p row) row)

-- what is done by a row, with the book of a lent row, where it is one

abbrev pub SheetPreparedWrites : List ℕ → List ℕ → Fields → List ℕ → List ℤ → ℕ → List ℕ → List ℤ → Type 0
SheetPreparedWrites book row f out answer r out_after answer_after =
    Given (if_book (is_book book) (if_room (has 2 answer) (prepared_wrote book row f out))) answer answer_after r
    × (out_after ≡ when (both (is_book book) (has 2 answer)) (prepared_output book row f out) out)

abbrev pub SheetPreparedReads : ℕ → List ℕ → List ℕ → List ℕ → ℤ → List ℤ → ℕ → List ℤ → Type 0
SheetPreparedReads n book row s current answer r answer_after =
    Given (if_choices (of_reading n) (if_book (is_book book) (if_room (has 48 answer) (prepared_read (choices_of n) book row s current)))) answer answer_after r

abbrev pub SheetPreparedChecks : ℕ → List ℕ → ℤ → List ℤ → ℕ → List ℤ → Type 0
SheetPreparedChecks n row current answer r answer_after =
    Given (if_choices (of_check n) (if_room (has 10 answer) (prepared_verdict (edition_of n) row current))) answer answer_after r

abbrev pub SheetPreparedReadsList : ℕ → List ℕ → List ℕ → List ℕ → ℤ → lists.Rows → List ℤ → ℕ → lists.Rows → List ℤ → Type 0
SheetPreparedReadsList n book row s current rows answer r rows_after answer_after =
    Given (if_choices (of_reading n) (if_book (is_book book) (if_room (has 2 answer) (prepared_listed (choices_of n) row s current rows)))) answer answer_after r
    × (rows_after ≡ when (both (of_reading n) (both (is_book book) (has 2 answer))) (prepared_rows (choices_of n) book row s current rows) rows)
