-- Request [9]: a whole list at once. The lines of a text; each read by itself with one pattern, into four lent rows; and the line
-- that starts at a place, read by itself.
use Rattle.std.specs.Prelude.{Bool, true, false, List, [], ◌∷◌, map, ℕ, suc, ◌+◌, min, eqb, leb, ℤ, pos, length, get_or, drop, Option, Some, None, Result, Ok, Err}
use Rattle.std.proofs.lemmas.List.Edits.{sets}
use Rattle.meaning.specs.Answers.{◌else◌, refuse_unless, pattern_check, current_year_check, read_answer}
use Rattle.meaning.specs.Bytes.{both}
use Rattle.meaning.specs.Names.{Book}
use Rattle.meaning.specs.Whole.{unit_number, record_of, read}
use Rattle.meaning.specs.Results.{Checked, Listed}
use Rattle.meaning.specs.declared.Choices.{Choices}
use Rattle.meaning.specs.declared.Edition.{Edition}
use Rattle.meaning.specs.declared.LineRead.{LineRead}
use Rattle.meaning.specs.declared.ParseUnit.{ParseUnit}
use Rattle.meaning.specs.declared.ParseUnit.TheVariants.{Year, Month, DayOfMonth}
use Rattle.meaning.specs.declared.Reading.{Reading}
use Rattle.meaning.specs.declared.Refusal.{Refusal}
use Rattle.meaning.specs.declared.Refusal.TheVariants.{ShortRow}

-- "A newline ends a line and a last line without one counts; an empty text has no line."

abbrev pub newline : ℕ
newline = 10

-- a byte before the first of these lines; before none, it is a line
abbrev pub before : ℕ → List (List ℕ) → List (List ℕ)
before b [] = (b ∷ []) ∷ []
before b (line ∷ ls) = (b ∷ line) ∷ ls

unfoldable pub lines : List ℕ → List (List ℕ)
lines [] = []
lines (b ∷ s) = elim (eqb b newline) [ true ↦ [] ∷ lines s | false ↦ before b (lines s) ]

-- "Each step gives the line's own answer as the plain reader would, so a bad line spoils no other."

unfoldable pub read_lines : Choices → Book → List ℕ → List ℕ → ℤ → List (Result Reading Refusal)
unfolding lines read
read_lines choices book p s current = map (λ line. read choices book p line current) (lines s)

-- "Day, month and year go to lent rows of 32-bit numbers, with a code row beside them; unread values and the values of refused
-- lines are zero. The code is 0 for a line taken, else its refusal number."

pub record Rows : Type 0 where
  pub days : List ℤ
  pub months : List ℤ
  pub years : List ℤ
  pub codes : List ℕ

abbrev pub rows_of : List ℤ → List ℤ → List ℤ → List ℕ → Rows
rows_of days months years codes = record { days = days; months = months; years = years; codes = codes }

abbrev pub cell : ParseUnit → Result Reading Refusal → ℤ
cell unit r = get_or (record_of r).values (unit_number unit) (pos 0)

abbrev pub code_of : Result Reading Refusal → ℕ
code_of r = (read_answer r).number

-- "cells past the last line stay"
abbrev pub laid : List (Result Reading Refusal) → Rows → Rows
laid rs rows =
    rows_of (sets rows.days 0 (map (cell DayOfMonth) rs)) (sets rows.months 0 (map (cell Month) rs))
    (sets rows.years 0 (map (cell Year) rs)) (sets rows.codes 0 (map code_of rs))

-- "Refusals: 1, 2, 3, 14, then 24 a row shorter than the lines, all before anything is stored."

abbrev pub hold : ℕ → Rows → Bool
hold n rows =
    both (leb n (length rows.days))
    (both (leb n (length rows.months)) (both (leb n (length rows.years)) (leb n (length rows.codes))))

unfoldable pub list_check : Edition → List ℕ → List ℕ → ℤ → Rows → Checked
unfolding pattern_check current_year_check lines
list_check edition p s current rows =
    pattern_check p else
    current_year_check edition current else
    refuse_unless (hold (length (lines s)) rows) ShortRow

abbrev pub listed_by : Checked → ℕ → Listed
listed_by (Ok _) n = Ok n
listed_by (Err why) n = Err why

abbrev pub rows_by : Checked → List (Result Reading Refusal) → Rows → Rows
rows_by (Ok _) rs rows = laid rs rows
rows_by (Err why) rs rows = rows

-- the answer, and the lent rows afterwards
unfoldable pub read_list : Choices → Book → List ℕ → List ℕ → ℤ → Rows → Listed
unfolding list_check
read_list choices book p s current rows = listed_by (list_check choices.edition p s current rows) (length (lines s))

unfoldable pub list_rows : Choices → Book → List ℕ → List ℕ → ℤ → Rows → Rows
unfolding list_check read_lines
list_rows choices book p s current rows =
    rows_by (list_check choices.edition p s current rows) (read_lines choices book p s current) rows

-- The line reader: the first line of what stands from a place on, with its answer and the place of the next line, or none.

abbrev pub line_at : ℕ → ℕ → List ℕ → Result Reading Refusal → LineRead
line_at size at line r =
    record { start = at; end = at + length line; next = min (suc (at + length line)) size; reading = r }

abbrev pub first_line : ℕ → ℕ → (List ℕ → Result Reading Refusal) → List (List ℕ) → Option LineRead
first_line size at reading [] = None
first_line size at reading (line ∷ ls) = Some (line_at size at line (reading line))

unfoldable pub read_line : Choices → Book → List ℕ → List ℕ → ℕ → ℤ → Option LineRead
unfolding lines read
read_line choices book p s at current =
    first_line (length s) at (λ line. read choices book p line current) (lines (drop at s))
