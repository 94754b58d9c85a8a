-- A row that stands for a pattern does at the doors what the pattern does: what is promised of its uses is what is promised of the direct
-- ones. So it is with a row that was prepared (`prepared-stands`).
use mathlib.Core.Bool.{true}
use mathlib.Core.List.{List}
use mathlib.Core.Path.{◌≡◌}
use Prim.Native.Nat.{ℕ}
use lib.IntN.{ℤ}
use Rattle.meaning.specs.Answers.{wrote_answer, read_answer, list_answer, verdict_answer}
use Rattle.meaning.specs.Lists as lists
use Rattle.meaning.specs.Lists.{read_list, list_rows}
use Rattle.meaning.specs.OpenedBooks.{book_in}
use Rattle.meaning.specs.Whole.{write, output, read}
use Rattle.meaning.specs.declared.Edition.{Edition}
use Rattle.meaning.specs.declared.Fields.{Fields}
use Rattle.prepared.proofs.AsThePattern.{writes-so, output-so, reads_so, list-so, list-rows-so, says_so}
use Rattle.prepared.specs.Stands.{Stands}
use Rattle.prepared.specs.Uses.{verdict_in, prepared_wrote, prepared_output, prepared_read, prepared_listed, prepared_rows, prepared_verdict}
use Rattle.rows.specs.Rows.{in_row}
use Rattle.sheet.specs.Numbers.{pair_of, edition_of, choices_of, of_reading}
use Rattle.sheet.specs.Prepared.{SheetPreparedWrites, SheetPreparedReads, SheetPreparedReadsList, SheetPreparedChecks}
use Rattle.sheet.specs.Sheet.{SheetWritesBy, SheetReadsBy, SheetReadsList, SheetChecksWith}

module _ (n : ℕ) (p row : List ℕ) (stands : Stands (pair_of n) p row) where
  wrote_so : (book : List ℕ) (f : Fields) (out : List ℕ) → prepared_wrote book row f out ≡ in_row 2 (wrote_answer (write (pair_of n) (book_in book) p f out))
  wrote_so book f out = rw (stands.prepared, writes-so (pair_of n) p row stands (book_in book) f out)

  out-so : (book : List ℕ) (f : Fields) (out : List ℕ) → prepared_output book row f out ≡ output (pair_of n) (book_in book) p f out
  out-so book f out = rw (stands.prepared, output-so (pair_of n) p row stands (book_in book) f out)

  pub writes-as-direct : (book : List ℕ) (f : Fields) (out : List ℕ) (answer : List ℤ) (r : ℕ) (out_after : List ℕ) (answer_after : List ℤ) → of_reading n ≡ true
      → SheetPreparedWrites book row f out answer r out_after answer_after → SheetWritesBy n book p f out answer r out_after answer_after
  writes-as-direct book f out answer r out_after answer_after few given = rw (few, ← wrote_so book f out, ← out-so book f out) given

  read-so : (book s : List ℕ) (current : ℤ) → prepared_read (choices_of n) book row s current ≡ in_row 48 (read_answer (read (choices_of n) (book_in book) p s current))
  read-so book s current = rw (stands.prepared, reads_so (choices_of n) p row stands (book_in book) current s)

  pub reads-as-direct : (book s : List ℕ) (current : ℤ) (answer : List ℤ) (r : ℕ) (answer_after : List ℤ)
      → SheetPreparedReads n book row s current answer r answer_after → SheetReadsBy n book p s current answer r answer_after
  reads-as-direct book s current answer r answer_after given = rw (← read-so book s current) given

  listed-so : (s : List ℕ) (current : ℤ) (rows : lists.Rows) (book : List ℕ)
      → prepared_listed (choices_of n) row s current rows ≡ in_row 2 (list_answer (read_list (choices_of n) (book_in book) p s current rows))
  listed-so s current rows book = rw (stands.prepared, list-so (choices_of n) p row stands (book_in book) current s rows)

  rows-so : (book s : List ℕ) (current : ℤ) (rows : lists.Rows)
      → prepared_rows (choices_of n) book row s current rows ≡ list_rows (choices_of n) (book_in book) p s current rows
  rows-so book s current rows = rw (stands.prepared, list-rows-so (choices_of n) p row stands book current s rows)

  pub lists-as-direct : (book s : List ℕ) (current : ℤ) (rows : lists.Rows) (answer : List ℤ) (r : ℕ) (rows_after : lists.Rows) (answer_after : List ℤ)
      → SheetPreparedReadsList n book row s current rows answer r rows_after answer_after → SheetReadsList n book p s current rows answer r rows_after answer_after
  lists-as-direct book s current rows answer r rows_after answer_after given =
      rw (← listed-so s current rows book, ← rows-so book s current rows) given

  verdict-is : (edition : Edition) (current : ℤ) → prepared_verdict edition row current ≡ in_row 10 (verdict_answer (verdict_in edition row current))
  verdict-is edition current = rw stands.prepared

  pub checks-as-direct : (current : ℤ) (answer : List ℤ) (r : ℕ) (answer_after : List ℤ)
      → SheetPreparedChecks n row current answer r answer_after → SheetChecksWith n p current answer r answer_after
  checks-as-direct current answer r answer_after given =
      record {
        verdict = verdict_in (edition_of n) row current;
        says = says_so (pair_of n) p row stands (edition_of n) current;
        given = rw (← verdict-is (edition_of n) current) given;
      }
