-- Request [11]: what a prepared pattern does: what its steps do, behind what its pattern was refused for. "Every answer, refusal, place and
-- count equals the direct engine's": with a pattern's own check and steps these are `write`, `output` and `read` of Whole.
use Rattle.std.specs.Prelude.{List, [], map, ℕ, ℤ, pos, nat_abs, length, Result, Ok, Err}
use Rattle.meaning.specs.Answers.{◌else◌, refuse_unless, fields_check, room_check, current_year_check, text_check}
use Rattle.meaning.specs.Bytes.{when}
use Rattle.meaning.specs.Days.{is_short}
use Rattle.meaning.specs.Lists.{Rows, lines, hold, listed_by, rows_by}
use Rattle.meaning.specs.Names.{Book}
use Rattle.meaning.specs.Whole.{wrote_by, output_by, walk, read_by, last_of, bits, how_many}
use Rattle.meaning.specs.Writing.{Step, texts}
use Rattle.meaning.specs.Results.{Checked, Listed, Wrote}
use Rattle.meaning.specs.declared.Choices.{Choices}
use Rattle.meaning.specs.declared.Edition.{Edition}
use Rattle.meaning.specs.declared.Fields.{Fields}
use Rattle.meaning.specs.declared.Reading.{Reading}
use Rattle.meaning.specs.declared.Refusal.{Refusal}
use Rattle.meaning.specs.declared.Refusal.TheVariants.{ShortRow}

-- Writing: what the pattern was refused for, then 4, 5.

unfoldable pub write_steps_check : Checked → Book → List Step → Fields → ℕ → Checked
unfolding fields_check texts
write_steps_check of_pattern book ss f room = of_pattern else fields_check f else room_check room (length (texts book f ss))

-- the answer, and the lent output afterwards
unfoldable pub write_steps : Checked → Book → List Step → Fields → List ℕ → Wrote
unfolding write_steps_check
write_steps of_pattern book ss f out = wrote_by (write_steps_check of_pattern book ss f (length out)) (texts book f ss)

unfoldable pub output_steps : Checked → Book → List Step → Fields → List ℕ → List ℕ
unfolding write_steps_check
output_steps of_pattern book ss f out = output_by (write_steps_check of_pattern book ss f (length out)) (texts book f ss) out

-- Reading: what the pattern was refused for, then 14, 6, 7, then the steps in order. Of the choices strict and edition count: the pair was
-- chosen when the steps were.
unfoldable pub read_steps : Checked → Choices → Book → List Step → List ℕ → ℤ → Result Reading Refusal
unfolding current_year_check text_check walk last_of bits how_many
read_steps of_pattern choices book ss s current =
    read_by (of_pattern else current_year_check choices.edition current else text_check s) (walk choices book (nat_abs current) 0 0 ss s [])

-- A list: what the pattern was refused for, then 14, 24, then each line by itself.

unfoldable pub list_steps_check : Checked → Edition → List ℕ → ℤ → Rows → Checked
unfolding current_year_check lines
list_steps_check of_pattern edition s current rows =
    of_pattern else
    current_year_check edition current else
    refuse_unless (hold (length (lines s)) rows) ShortRow

-- "Lent rows of 32-bit numbers": a value that these do not hold is 0. No step of a pattern gives one, but a damaged row may.
abbrev pub narrow : ℤ → ℤ
narrow z = when (is_short z) z (pos 0)

abbrev pub narrowed : Result Reading Refusal → Result Reading Refusal
narrowed (Ok r) =
    Ok (record {
      taken = r.taken;
      values = map narrow r.values;
      mask = r.mask;
      units = r.units;
      starts = r.starts;
      ends = r.ends;
    })
narrowed (Err why) = Err why

unfoldable pub read_lines_steps : Checked → Choices → Book → List Step → List ℕ → ℤ → List (Result Reading Refusal)
unfolding lines read_steps
read_lines_steps of_pattern choices book ss s current = map (λ line. narrowed (read_steps of_pattern choices book ss line current)) (lines s)

-- the answer, and the lent rows afterwards
unfoldable pub read_list_steps : Checked → Choices → List ℕ → ℤ → Rows → Listed
unfolding list_steps_check
read_list_steps of_pattern choices s current rows =
    listed_by (list_steps_check of_pattern choices.edition s current rows) (length (lines s))

unfoldable pub list_rows_steps : Checked → Choices → Book → List Step → List ℕ → ℤ → Rows → Rows
unfolding list_steps_check read_lines_steps
list_rows_steps of_pattern choices book ss s current rows =
    rows_by (list_steps_check of_pattern choices.edition s current rows) (read_lines_steps of_pattern choices book ss s current) rows
