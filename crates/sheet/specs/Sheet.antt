-- What each function for C and Rust promises of the number r that it returns and of the lent rows afterwards. Where a lent row
-- is too small for the answer, r is 100, where a number stands for no choices or for no mark, 101, where a row is no book, 102, where no line is left,
-- 103, where changes do not fit, 104, and nothing is altered.
use Rattle.std.specs.Prelude.{Bool, List, [], ◌≡◌, ℕ, leb, ℤ, length, Result}
use Rattle.meaning.specs.Answers.{Answer, split_answer, wrote_answer, read_answer, list_answer, offset_answer, day_number_answer, day_answer, stamp_answer, verdict_answer}
use Rattle.meaning.specs.Bytes.{when, both}
use Rattle.meaning.specs.Days.{DayOf, day_number}
use Rattle.meaning.specs.Lists as lists
use Rattle.meaning.specs.Lists.{read_list, list_rows, read_line}
use Rattle.meaning.specs.Mending.{undo_output}
use Rattle.meaning.specs.Names.{Book, english}
use Rattle.meaning.specs.OpenedBooks.{book_in, open_book, open_output, write_book, book_output}
use Rattle.meaning.specs.Stamps.{read_stamp, write_stamp, stamp_output}
use Rattle.meaning.specs.Trust.{Says}
use Rattle.meaning.specs.Whole.{split, write, output, read, parse_offset}
use Rattle.meaning.specs.declared.Choices.{Choices}
use Rattle.meaning.specs.declared.Day.{Day}
use Rattle.meaning.specs.declared.Edition.{Edition}
use Rattle.meaning.specs.declared.Fields.{Fields}
use Rattle.meaning.specs.declared.Pair.{Pair}
use Rattle.meaning.specs.declared.Refusal.{Refusal}
use Rattle.meaning.specs.declared.Stamp.{Stamp}
use Rattle.meaning.specs.declared.Verdict.{Verdict}
use Rattle.rows.specs.Changes.{mended_counts, mend_numbers, holds_changes, changes_held, undone_by, in_undone}
use Rattle.rows.specs.Rows.{in_row, Given, laid, in_line, split_numbers, unit_entries}
use Rattle.sheet.specs.Numbers.{pair_of, edition_of, choices_of, of_reading, of_check, is_book, is_mark, is_marked}
use Rattle.trust.specs.Mending.{mend, mend_output}

-- whether a row has so many entries
abbrev pub has : {A : Type 0} → ℕ → List A → Bool
has n row = leb n (length row)

-- an answer where there is room for it
abbrev pub if_room : Bool → Answer → Answer
if_room room answer = when room answer (record { number = 100; values = [] })

-- an answer where a number stands for choices
abbrev pub if_choices : Bool → Answer → Answer
if_choices stands answer = when stands answer (record { number = 101; values = [] })

-- an answer where a row is a book
abbrev pub if_book : Bool → Answer → Answer
if_book stands answer = when stands answer (record { number = 102; values = [] })

-- an answer of two numbers, and the bytes of an output where it is given
abbrev pub WritesOut : Answer → List ℕ → List ℕ → List ℤ → ℕ → List ℕ → List ℤ → Type 0
WritesOut answer text out row r out_after row_after =
    Given (if_room (has 2 row) (in_row 2 answer)) row row_after r × (out_after ≡ when (has 2 row) text out)

abbrev pub SheetWrites : Pair → Book → List ℕ → Fields → List ℕ → List ℤ → ℕ → List ℕ → List ℤ → Type 0
SheetWrites pair book p f out = WritesOut (wrote_answer (write pair book p f out)) (output pair book p f out) out

-- the answer of a read
abbrev pub read_of : Choices → Book → List ℕ → List ℕ → ℤ → List ℤ → Answer
read_of choices book p s current row = if_room (has 48 row) (in_row 48 (read_answer (read choices book p s current)))

abbrev pub SheetReads : Choices → Book → List ℕ → List ℕ → ℤ → List ℤ → ℕ → List ℤ → Type 0
SheetReads choices book p s current row r row_after = Given (read_of choices book p s current row) row row_after r

-- with choices by their number, where it is one
abbrev pub SheetReadsWith : ℕ → List ℕ → List ℕ → ℤ → List ℤ → ℕ → List ℤ → Type 0
SheetReadsWith n p s current row r row_after = Given (if_choices (of_reading n) (read_of (choices_of n) english p s current row)) row row_after r

-- with the book of a lent row, where it is one

abbrev pub SheetWritesBy : ℕ → List ℕ → List ℕ → Fields → List ℕ → List ℤ → ℕ → List ℕ → List ℤ → Type 0
SheetWritesBy n book p f out row r out_after row_after =
    Given (if_choices (of_reading n) (if_book (is_book book) (if_room (has 2 row) (in_row 2 (wrote_answer (write (pair_of n) (book_in book) p f out)))))) row row_after r
    × (out_after ≡ when (both (of_reading n) (both (is_book book) (has 2 row))) (output (pair_of n) (book_in book) p f out) out)

abbrev pub SheetReadsBy : ℕ → List ℕ → List ℕ → List ℕ → ℤ → List ℤ → ℕ → List ℤ → Type 0
SheetReadsBy n book p s current row r row_after =
    Given (if_choices (of_reading n) (if_book (is_book book) (read_of (choices_of n) (book_in book) p s current row))) row row_after r

-- a list into four rows, and the line at a place of it

abbrev pub SheetReadsList : ℕ → List ℕ → List ℕ → List ℕ → ℤ → lists.Rows → List ℤ → ℕ → lists.Rows → List ℤ → Type 0
SheetReadsList n book p s current rows row r rows_after row_after =
    Given (if_choices (of_reading n) (if_book (is_book book) (if_room (has 2 row) (in_row 2 (list_answer (read_list (choices_of n) (book_in book) p s current rows)))))) row row_after r
    × (rows_after ≡ when (both (of_reading n) (both (is_book book) (has 2 row))) (list_rows (choices_of n) (book_in book) p s current rows) rows)

abbrev pub SheetReadsLine : ℕ → List ℕ → List ℕ → List ℕ → ℕ → ℤ → List ℤ → ℕ → List ℤ → Type 0
SheetReadsLine n book p s at current row r row_after =
    Given (if_choices (of_reading n) (if_book (is_book book) (if_room (has 51 row) (in_line (read_line (choices_of n) (book_in book) p s at current))))) row row_after r

abbrev pub SheetOpensBook : List ℕ → List ℕ → List ℤ → ℕ → List ℕ → List ℤ → Type 0
SheetOpensBook s book = WritesOut (wrote_answer (open_book s book)) (open_output s book) book

abbrev pub SheetWritesBook : List ℕ → List ℕ → List ℤ → ℕ → List ℕ → List ℤ → Type 0
SheetWritesBook book out row r out_after row_after =
    Given (if_book (is_book book) (if_room (has 2 row) (in_row 2 (wrote_answer (write_book book out))))) row row_after r
    × (out_after ≡ when (both (is_book book) (has 2 row)) (book_output book out) out)

abbrev pub SheetTellsRead : ℤ → ℕ → ℕ → Type 0
SheetTellsRead mask unit r = r ≡ when (is_marked mask unit) 1 0

abbrev pub SheetParsesOffset : List ℕ → List ℤ → ℕ → List ℤ → Type 0
SheetParsesOffset s row r row_after = Given (if_room (has 2 row) (in_row 2 (offset_answer (parse_offset s)))) row row_after r

-- an answer in its row, and numbers in a second row of n entries
abbrev pub InTwoRows : Answer → List ℤ → ℕ → List ℤ → List ℤ → ℕ → List ℤ → List ℤ → Type 0
InTwoRows answer numbers n row more r row_after more_after =
    Given (if_room (both (has 2 row) (has n more)) (in_row 2 answer)) row row_after r
    × (more_after ≡ laid (when (both (has 2 row) (has n more)) numbers []) more)

abbrev pub SheetSplits : List ℕ → List ℤ → List ℤ → ℕ → List ℤ → List ℤ → Type 0
SheetSplits p = InTwoRows (split_answer (split p)) (split_numbers (split p)) 768

-- the answer of the split
abbrev pub SheetUnits : List ℕ → List ℤ → List ℤ → ℕ → List ℤ → List ℤ → Type 0
SheetUnits p = InTwoRows (split_answer (split p)) (unit_entries p) 256

-- an answer that `Says` allows, which leaves open the failing record
pub record Checks (edition : Edition) (p : List ℕ) (current : ℤ) (answer : Result Verdict Refusal → Answer) (row : List ℤ) (r : ℕ) (row_after : List ℤ) : Type 0 where
  pub verdict : Result Verdict Refusal
  pub says : Says edition p current verdict
  pub given : Given (answer verdict) row row_after r

abbrev pub verdict_in : List ℤ → Result Verdict Refusal → Answer
verdict_in row verdict = if_room (has 10 row) (in_row 10 (verdict_answer verdict))

abbrev pub SheetChecks : Edition → List ℕ → ℤ → List ℤ → ℕ → List ℤ → Type 0
SheetChecks edition p current row = Checks edition p current (verdict_in row) row

-- with choices by their number, where it is one of a check
abbrev pub SheetChecksWith : ℕ → List ℕ → ℤ → List ℤ → ℕ → List ℤ → Type 0
SheetChecksWith n p current row =
    Checks (edition_of n) p current (λ verdict. if_choices (of_check n) (verdict_in row verdict)) row

-- a pattern mended, its changes in a second row; and the changes of such a row undone

abbrev pub SheetMends : ℕ → List ℕ → ℤ → List ℕ → List ℤ → List ℤ → ℕ → List ℕ → List ℤ → List ℤ → Type 0
SheetMends n p current out changes row r out_after changes_after row_after =
    Given (if_choices (of_check n) (if_room (both (has 512 changes) (has 2 row)) (in_row 2 (mended_counts (mend (edition_of n) p current out))))) row row_after r
    × (out_after ≡ when (both (of_check n) (both (has 512 changes) (has 2 row))) (mend_output (edition_of n) p current out) out)
    × (changes_after ≡ laid (when (both (of_check n) (both (has 512 changes) (has 2 row))) (mend_numbers (mend (edition_of n) p current out)) []) changes)

abbrev pub SheetUndoes : List ℕ → List ℤ → List ℕ → List ℤ → ℕ → List ℕ → List ℤ → Type 0
SheetUndoes p changes out row r out_after row_after =
    Given (if_room (has 2 row) (in_undone (undone_by p changes out))) row row_after r
    × (out_after ≡ when (both (has 2 row) (holds_changes changes)) (undo_output p (changes_held changes) out) out)

-- the day of a number
pub record SheetDay (z : ℤ) (row : List ℤ) (r : ℕ) (row_after : List ℤ) : Type 0 where
  pub day : Day
  pub is : DayOf z day
  pub given : Given (if_room (has 6 row) (in_row 6 (day_answer day))) row row_after r

abbrev pub SheetDayNumber : ℤ → ℕ → ℕ → List ℤ → ℕ → List ℤ → Type 0
SheetDayNumber year month day row r row_after =
    Given (if_room (has 2 row) (in_row 2 (day_number_answer (day_number year month day)))) row row_after r

-- a stamp read; and one written, where a number is its mark

abbrev pub SheetReadsStamp : List ℕ → List ℤ → ℕ → List ℤ → Type 0
SheetReadsStamp s row r row_after = Given (if_room (has 6 row) (in_row 6 (stamp_answer (read_stamp s)))) row row_after r

abbrev pub SheetWritesStamp : ℕ → Stamp → List ℕ → List ℤ → ℕ → List ℕ → List ℤ → Type 0
SheetWritesStamp mark stamp out row r out_after row_after =
    Given (if_choices (is_mark mark) (if_room (has 2 row) (in_row 2 (wrote_answer (write_stamp stamp out))))) row row_after r
    × (out_after ≡ when (both (is_mark mark) (has 2 row)) (stamp_output stamp out) out)
