-- A row that stands for a pattern answers as the pattern, in every use: what it writes, reads and finds, for every choice that is made then.
use Rattle.std.specs.Prelude.{Result, Ok, Err}
use mathlib.Core.List.{List, [], ◌∷◌, map}
use mathlib.Core.Path.{◌≡◌, refl, ap, ◌∙◌}
use Prim.Native.Nat.{ℕ, ◌<◌}
use native.Mathlib.Omega.{arith}
use lib.IntN.{ℤ}
use Rattle.laws.proofs.Values.{value-short, few-months}
use Rattle.meaning.specs.Answers.{◌else◌, pattern_check, current_year_check}
use Rattle.meaning.specs.Lists.{Rows, lines, cell, code_of, laid, read_lines, list_check, read_list, list_rows, rows_by}
use Rattle.meaning.specs.Names.{Book}
use Rattle.meaning.specs.OpenedBooks.{book_in}
use Rattle.meaning.specs.Trust.{Says, trust_check}
use Rattle.meaning.specs.Whole.{unit_number, text, write_check, write, output, walk, read_check, read_with, read}
use Rattle.meaning.specs.Results.{Checked}
use Rattle.meaning.specs.declared.Choices.{Choices}
use Rattle.meaning.specs.declared.Edition.{Edition}
use Rattle.meaning.specs.declared.Fields.{Fields}
use Rattle.meaning.specs.declared.Pair.{Pair}
use Rattle.meaning.specs.declared.ParseUnit.{ParseUnit}
use Rattle.meaning.specs.declared.ParseUnit.TheVariants.{Year, Month, DayOfMonth}
use Rattle.meaning.specs.declared.Reading.{Reading}
use Rattle.meaning.specs.declared.Refusal.{Refusal}
use Rattle.trust.proofs.Turns.{shown-failing}
use Rattle.trust.proofs.Verdicts.{verdict-says}
use Rattle.trust.specs.Check.{shown, verdict_by, verdict_of}
use Rattle.meaning.specs.Prepared.{write_steps_check, write_steps, output_steps, read_steps, list_steps_check, read_lines_steps, read_list_steps, list_rows_steps, narrowed}
use Rattle.words.specs.Rows.{checked_in, steps_held}
use Rattle.lists.proofs.cells.Line.{narrow-same}
use Rattle.prepared.proofs.NarrowCells.{cell-narrowed, code-narrowed}
use Rattle.prepared.specs.Stands.{Stands}
use Rattle.prepared.specs.Verdicts.{unmet_held}

by-checked : {P : Type 0} (checked : Checked) → (checked ≡ Ok tt → P) → ((why : Refusal) → checked ≡ Err why → P) → P
by-checked (Ok _) fine refused = fine refl
by-checked (Err why) fine refused = refused why refl

module _ (pair : Pair) (p row : List ℕ) (stands : Stands pair p row) where
  pub writes-so : (book : Book) (f : Fields) (out : List ℕ) → write_steps (checked_in row) book (steps_held row) f out ≡ write pair book p f out
  unfolding write_steps write_steps_check write write_check text
  writes-so book f out =
      rw stands.checks
      (by-checked (pattern_check p) (λ fine. rw (stands.holds fine)) (λ why refused. rw refused))

  pub output-so : (book : Book) (f : Fields) (out : List ℕ) → output_steps (checked_in row) book (steps_held row) f out ≡ output pair book p f out
  unfolding output_steps write_steps_check output write_check text
  output-so book f out =
      rw stands.checks
      (by-checked (pattern_check p) (λ fine. rw (stands.holds fine)) (λ why refused. rw refused))

  -- the check, in every edition and year: so it says what the check of the pattern says
  pub verdict-so : (edition : Edition) (current : ℤ)
      → verdict_by (checked_in row else current_year_check edition current) (shown (unmet_held edition row)) ≡ verdict_of edition p current
  unfolding verdict_of trust_check
  verdict-so edition current =
      rw stands.checks
      (by-checked (pattern_check p) (λ fine. rw (stands.finds fine edition, shown-failing edition p)) (λ why refused. rw refused))

  pub says_so : (edition : Edition) (current : ℤ)
      → Says edition p current (verdict_by (checked_in row else current_year_check edition current) (shown (unmet_held edition row)))
  says_so edition current = rw (verdict-so edition current) (verdict-says edition p current)

-- a reading, strict or not and in every edition, with the pair that the pattern was prepared for
module _ (choices : Choices) (p row : List ℕ) (stands : Stands choices.pair p row) (book : Book) (current : ℤ) where
  pub reads_so : (s : List ℕ) → read_steps (checked_in row) choices book (steps_held row) s current ≡ read choices book p s current
  unfolding read_steps read read_with read_check walk
  reads_so s =
      rw stands.checks
      (by-checked (pattern_check p) (λ fine. rw (stands.holds fine)) (λ why refused. rw refused))

  pub list-so : (s : List ℕ) (rows : Rows) → read_list_steps (checked_in row) choices s current rows ≡ read_list choices book p s current rows
  unfolding read_list_steps list_steps_check read_list list_check
  list-so s rows = rw stands.checks

  list-check-so : (s : List ℕ) (rows : Rows) → list_steps_check (checked_in row) choices.edition s current rows ≡ list_check choices.edition p s current rows
  unfolding list_steps_check list_check
  list-check-so s rows = rw stands.checks

-- the rows of a list: no value of a pattern is too wide for them, with the names of any lent book

module _ (choices : Choices) (p row : List ℕ) (stands : Stands choices.pair p row) (book : List ℕ) (current : ℤ) where
  wide : List ℕ → Result Reading Refusal
  wide line = read choices (book_in book) p line current

  narrow-cell : (unit : ParseUnit) → unit_number unit < 14 → (line : List ℕ) → cell unit (narrowed (wide line)) ≡ cell unit (wide line)
  unfolding wide
  narrow-cell unit h line =
      cell-narrowed unit (wide line)
      ∙ narrow-same (cell unit (wide line)) (value-short choices (book_in book) (few-months book) p line current (unit_number unit) h)

  cells-so : {B : Type 0} (f : Result Reading Refusal → B) → ((line : List ℕ) → f (narrowed (wide line)) ≡ f (wide line)) → (ls : List (List ℕ))
      → map f (map (λ line. narrowed (read_steps (checked_in row) choices (book_in book) (steps_held row) line current)) ls)
      ≡ map f (map (λ line. read choices (book_in book) p line current) ls)
  unfolding wide
  cells-so f same [] = refl
  cells-so f same (line ∷ ls) = rw (reads_so choices p row stands (book_in book) current line, same line, cells-so f same ls)

  laid_so : (s : List ℕ) (rows : Rows)
      → laid (read_lines_steps (checked_in row) choices (book_in book) (steps_held row) s current) rows ≡ laid (read_lines choices (book_in book) p s current) rows
  unfolding read_lines_steps read_lines wide
  laid_so s rows =
      let days = cells-so (cell DayOfMonth) (narrow-cell DayOfMonth (omega arith)) (lines s) in
      let months = cells-so (cell Month) (narrow-cell Month (omega arith)) (lines s) in
      let years = cells-so (cell Year) (narrow-cell Year (omega arith)) (lines s) in
      let codes = cells-so code_of (λ line. code-narrowed (wide line)) (lines s) in
      rw (days, months, years, codes)

  rows-by-so : (checked : Checked) (s : List ℕ) (rows : Rows)
      → rows_by checked (read_lines_steps (checked_in row) choices (book_in book) (steps_held row) s current) rows
      ≡ rows_by checked (read_lines choices (book_in book) p s current) rows
  rows-by-so (Ok _) s rows = laid_so s rows
  rows-by-so (Err why) s rows = refl

  pub list-rows-so : (s : List ℕ) (rows : Rows)
      → list_rows_steps (checked_in row) choices (book_in book) (steps_held row) s current rows ≡ list_rows choices (book_in book) p s current rows
  unfolding list_rows_steps list_rows
  list-rows-so s rows =
      rows-by-so (list_steps_check (checked_in row) choices.edition s current rows) s rows
      ∙ ap (λ (checked : Checked). rows_by checked (read_lines choices (book_in book) p s current) rows)
      (list-check-so choices p row stands (book_in book) current s rows)
