-- Specification, "How tight the promises are": what each public function promises of its answer r and, where it is lent an
-- output, of the output afterwards. That of the check is `Says` in `Trust`, that of the day of a number `DayOf` in `Days`, that of a
-- mending `Mends` in `trust`'s `Mending`.
use Rattle.std.specs.Prelude.{Bool, List, ◌≡◌, ℕ, ℤ, Option, Result}
use Rattle.meaning.specs.Answers.{Answer, split_answer, wrote_answer, read_answer, list_answer, offset_answer, day_number_answer, stamp_answer}
use Rattle.meaning.specs.Days.{day_number}
use Rattle.meaning.specs.Lists.{Rows, read_list, list_rows, read_line}
use Rattle.meaning.specs.Mending.{undo, undo_output}
use Rattle.meaning.specs.Names.{Book}
use Rattle.meaning.specs.OpenedBooks.{open_book, open_output, write_book, book_output}
use Rattle.meaning.specs.Stamps.{read_stamp, write_stamp, stamp_output}
use Rattle.meaning.specs.Whole.{split, write, output, read, parse_offset, unit_number, marked}
use Rattle.meaning.specs.declared.Change.{Change}
use Rattle.meaning.specs.declared.Choices.{Choices}
use Rattle.meaning.specs.Results.{DayNumber, Listed, Offset, Stamped, Undone, Wrote}
use Rattle.meaning.specs.declared.Fields.{Fields}
use Rattle.meaning.specs.declared.LineRead.{LineRead}
use Rattle.meaning.specs.declared.Pair.{Pair}
use Rattle.meaning.specs.declared.ParseUnit.{ParseUnit}
use Rattle.meaning.specs.declared.Reading.{Reading}
use Rattle.meaning.specs.declared.Refusal.{Refusal}
use Rattle.meaning.specs.declared.Split.{Split}
use Rattle.meaning.specs.declared.Stamp.{Stamp}

-- r is the answer d: by the specification's number and values, and in all that it holds. Where it holds no more than these either says
-- the other.
pub record SameAnswer {A : Type 0} (answer : A → Answer) (r d : A) : Type 0 where
  pub told : answer r ≡ answer d
  pub whole : r ≡ d

abbrev pub Splits : List ℕ → Result Split Refusal → Type 0
Splits p r = SameAnswer split_answer r (split p)

abbrev pub Writes : Pair → Book → List ℕ → Fields → List ℕ → Wrote → List ℕ → Type 0
Writes pair book p f out r after = SameAnswer wrote_answer r (write pair book p f out) × (after ≡ output pair book p f out)

abbrev pub Reads : Choices → Book → List ℕ → List ℕ → ℤ → Result Reading Refusal → Type 0
Reads choices book p s current r = SameAnswer read_answer r (read choices book p s current)

abbrev pub ParsesOffset : List ℕ → Offset → Type 0
ParsesOffset s r = SameAnswer offset_answer r (parse_offset s)

abbrev pub TellsRead : ℕ → ParseUnit → Bool → Type 0
TellsRead mask unit r = r ≡ marked mask (unit_number unit)

abbrev pub NumbersDay : ℤ → ℕ → ℕ → DayNumber → Type 0
NumbersDay year month day r = SameAnswer day_number_answer r (day_number year month day)

-- a book's bytes into a lent row, and a lent row's book as bytes of version 1
abbrev pub OpensBook : List ℕ → List ℕ → Wrote → List ℕ → Type 0
OpensBook s out r after = SameAnswer wrote_answer r (open_book s out) × (after ≡ open_output s out)

abbrev pub WritesBook : List ℕ → List ℕ → Wrote → List ℕ → Type 0
WritesBook row out r after = SameAnswer wrote_answer r (write_book row out) × (after ≡ book_output row out)

-- a list into four lent rows, and the line at a place of it
abbrev pub ReadsList : Choices → Book → List ℕ → List ℕ → ℤ → Rows → Listed → Rows → Type 0
ReadsList choices book p s current rows r after =
    SameAnswer list_answer r (read_list choices book p s current rows) × (after ≡ list_rows choices book p s current rows)

abbrev pub ReadsLine : Choices → Book → List ℕ → List ℕ → ℕ → ℤ → Option LineRead → Type 0
ReadsLine choices book p s at current r = r ≡ read_line choices book p s at current

-- listed changes of a pattern undone
abbrev pub Undoes : List ℕ → List Change → List ℕ → Undone → List ℕ → Type 0
Undoes p cs out r after = (r ≡ undo p cs out) × (after ≡ undo_output p cs out)

abbrev pub ReadsStamp : List ℕ → Stamped → Type 0
ReadsStamp s r = SameAnswer stamp_answer r (read_stamp s)

abbrev pub WritesStamp : Stamp → List ℕ → Wrote → List ℕ → Type 0
WritesStamp stamp out r after = SameAnswer wrote_answer r (write_stamp stamp out) × (after ≡ stamp_output stamp out)
