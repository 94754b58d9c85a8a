-- The answers of the steps of reading, from what the definitions' readers give: places count from the text's start, and a
-- step that goes on answers the moved cursor.
use Rattle.std.specs.Prelude.{false, ℕ, ◌+◌, Result, Ok, Err, Option}
use Rattle.meaning.specs.Names.{Book}
use Rattle.meaning.specs.Numerals.{Signed}
use Rattle.meaning.specs.Readers.{Got, got, stopped, Reader}
use Rattle.meaning.specs.Reading.{read_step}
use Rattle.meaning.specs.Writing.{Step}
use Rattle.meaning.specs.declared.Carried.{Carried}
use Rattle.meaning.specs.declared.Choices.{Choices}
use Rattle.meaning.specs.declared.Edition.{Edition}
use Rattle.meaning.specs.declared.Pair.TheVariants.{Full}
use Rattle.meaning.specs.declared.Trouble.{Trouble}
use Rattle.numerals.specs.Numbers.{signed}
-- passed on to those who name what a take gives
pub use Rattle.numerals.specs.declared.Number.{Number}
use Rattle.parse.specs.declared.cursor.Cursor.{Cursor}
use Rattle.parse.specs.declared.cursor.Read.{Read}
use Rattle.parse.specs.declared.cursor.Stop.{Stop}

-- a step at a cursor

abbrev pub stopped_at : ℕ → Trouble → ℕ → Stop
stopped_at at why i = record { trouble = why; place = at + i }

abbrev pub read_at : {A : Type 0} → ℕ → Got A → Result (Read A) Stop
read_at at (got k a) = Ok (record { value = a; next = record { at = at + k } })
read_at at (stopped why i) = Err (stopped_at at why i)

abbrev pub taken_at : ℕ → Got Signed → Result (Read Number) Stop
taken_at at (got k n) = Ok (record { value = signed n; next = record { at = at + k } })
taken_at at (stopped why i) = Err (stopped_at at why i)

abbrev pub skipped_at : ℕ → Got Unit → Result Cursor Stop
skipped_at at (got k u) = Ok (record { at = at + k })
skipped_at at (stopped why i) = Err (stopped_at at why i)

abbrev pub matched_at : ℕ → Got ℕ → Result (Read ℕ) Stop
matched_at = read_at

-- what a part gives

abbrev pub part_at : ℕ → Got (Option Carried) → Result (Read (Option Carried)) Stop
part_at = read_at

-- what a part reads where its literals are not compared, the same by either pair
abbrev pub unseen : Edition → Choices
unseen edition = record { pair = Full; strict = false; edition = edition }

abbrev pub plain_read : Edition → Book → ℕ → Step → Reader (Option Carried)
plain_read edition = read_step (unseen edition)
