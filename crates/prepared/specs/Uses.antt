-- Request [11]: what the uses of a row answer, whatever it holds: what its words stand for where it is that of a prepared pattern, and
-- 105 where it is not, with nothing altered.
use Rattle.std.specs.Prelude.{List, [], ◌∷◌, ℕ, Bool, ℤ, pos, length, Result}
use Rattle.meaning.specs.Answers.{Answer, answer_by, ◌else◌, pattern_check, current_year_check, wrote_answer, read_answer, list_answer, verdict_answer}
use Rattle.meaning.specs.Bytes.{when}
use Rattle.meaning.specs.Lists.{Rows}
use Rattle.meaning.specs.OpenedBooks.{book_in}
use Rattle.meaning.specs.declared.Choices.{Choices}
use Rattle.meaning.specs.declared.Edition.{Edition}
use Rattle.meaning.specs.declared.Fields.{Fields}
use Rattle.meaning.specs.declared.Pair.{Pair}
use Rattle.meaning.specs.declared.Refusal.{Refusal}
use Rattle.meaning.specs.declared.Verdict.{Verdict}
use Rattle.rows.specs.Rows.{in_row}
use Rattle.trust.specs.Check.{shown, verdict_by}
use Rattle.words.specs.Packing.{packed}
use Rattle.meaning.specs.Prepared.{write_steps, output_steps, read_steps, read_list_steps, list_rows_steps}
use Rattle.words.specs.Rows.{checked_in, steps_held}
use Rattle.prepared.specs.Stands.{is_prepared}
use Rattle.prepared.specs.Verdicts.{unmet_held}

-- an answer where a row is that of a prepared pattern
abbrev pub if_prepared : Bool → Answer → Answer
if_prepared stands answer = when stands answer (record { number = 105; values = [] })

-- what is written, and the output afterwards
abbrev pub prepared_wrote : List ℕ → List ℕ → Fields → List ℕ → Answer
prepared_wrote book row f out =
    if_prepared (is_prepared row) (in_row 2 (wrote_answer (write_steps (checked_in row) (book_in book) (steps_held row) f out)))

abbrev pub prepared_output : List ℕ → List ℕ → Fields → List ℕ → List ℕ
prepared_output book row f out = when (is_prepared row) (output_steps (checked_in row) (book_in book) (steps_held row) f out) out

-- what is read
abbrev pub prepared_read : Choices → List ℕ → List ℕ → List ℕ → ℤ → Answer
prepared_read choices book row s current =
    if_prepared (is_prepared row) (in_row 48 (read_answer (read_steps (checked_in row) choices (book_in book) (steps_held row) s current)))

-- what the check finds
abbrev pub verdict_in : Edition → List ℕ → ℤ → Result Verdict Refusal
verdict_in edition row current = verdict_by (checked_in row else current_year_check edition current) (shown (unmet_held edition row))

abbrev pub prepared_verdict : Edition → List ℕ → ℤ → Answer
prepared_verdict edition row current = if_prepared (is_prepared row) (in_row 10 (verdict_answer (verdict_in edition row current)))

-- a list: how many lines, and the four rows afterwards
abbrev pub prepared_listed : Choices → List ℕ → List ℕ → ℤ → Rows → Answer
prepared_listed choices row s current rows =
    if_prepared (is_prepared row) (in_row 2 (list_answer (read_list_steps (checked_in row) choices s current rows)))

abbrev pub prepared_rows : Choices → List ℕ → List ℕ → List ℕ → ℤ → Rows → Rows
prepared_rows choices book row s current rows =
    when (is_prepared row) (list_rows_steps (checked_in row) choices (book_in book) (steps_held row) s current rows) rows

-- a pattern prepared: how many words its steps have
abbrev pub prepared_answer : Pair → List ℕ → Answer
prepared_answer pair p = answer_by (pattern_check p) (pos (length (packed pair p)) ∷ [])
