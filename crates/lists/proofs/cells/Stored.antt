-- The loop over the lines, however one is read: what is still to be laid, over what is there, gives the rows in the end.
use Rattle.std.specs.Prelude.{Some, Result}
use borrow.Author.Tests.{leb-true}
use mathlib.Core.Bool.{true}
use mathlib.Core.List.{List, map}
use mathlib.Core.Path.{◌≡◌, refl, ap, ◌∙◌}
use Prim.Native.Nat.{ℕ, suc, ◌+◌, ◌-◌, ◌≤◌, ◌<◌}
use native.Mathlib.Numerals.{add-one}
use native.Mathlib.Omega.{arith}
use lib.Dec.{leb}
use lib.IntN.{ℤ}
use lib.ListN.{length, take, drop, length-set}
use lib.Seq.{sets}
use Rattle.laws.proofs.Lists.{line-there, line-none, Room}
use Rattle.laws.proofs.Tests.{both_true}
use Rattle.laws.specs.Lists.{line_end, next_line}
use Rattle.lists.specs.LentRows.{HasCell, SameRows, with_line}
use Rattle.lists.specs.LineReaders.{HasCells, cell_in}
use Rattle.lists.specs.Walk.{places_at, places_from, Walks}
use Rattle.lists.specs.declared.cells.LentRows.{LentRows}
use Rattle.lists.specs.declared.line_reader.LineReader.{LineReader}
use Rattle.lists.specs.declared.lines.Places.{Places}
use Rattle.lists.proofs.Counted.{few-lines}
use Rattle.lists.proofs.line_reader.Walks.{places-many}
use Rattle.meaning.specs.Lists.{lines, Rows, rows_of, cell, code_of, laid, hold}
use Rattle.meaning.specs.declared.ParseUnit.TheVariants.{Year, Month, DayOfMonth}
use Rattle.meaning.specs.declared.Reading.{Reading}
use Rattle.meaning.specs.declared.Refusal.{Refusal}

-- the cells from a place on
abbrev laid_from : ℕ → List (Result Reading Refusal) → Rows → Rows
laid_from i rs rows =
    rows_of (sets rows.days i (map (cell DayOfMonth) rs)) (sets rows.months i (map (cell Month) rs))
    (sets rows.years i (map (cell Year) rs)) (sets rows.codes i (map code_of rs))

-- the lines from a place on are left, and each has its cell
pub record Walked (s : List ℕ) (old rows : Rows) (at i : ℕ) : Type 0 where
  pub room : Room (length (lines s)) old
  pub inside : at ≤ length s
  pub count : i + length (lines (drop at s)) ≡ length (lines s)
  pub days : length rows.days ≡ length old.days
  pub months : length rows.months ≡ length old.months
  pub years : length rows.years ≡ length old.years
  pub codes : length rows.codes ≡ length old.codes

-- and their readings are still to be laid
pub record Unfinished (reading : List ℕ → Result Reading Refusal) (s : List ℕ) (old rows : Rows) (at i : ℕ) : Type 0 where
  pub held : laid_from i (map reading (lines (drop at s))) rows ≡ laid (map reading (lines s)) old

-- rows that hold so many lines have room for them
pub held : (n : ℕ) (rows : Rows) → hold n rows ≡ true → Room n rows
held n rows h =
    let d = both_true (leb n (length rows.days)) _ h in
    let m = both_true (leb n (length rows.months)) _ d.1 in
    let y = both_true (leb n (length rows.years)) _ m.1 in
    record { days = leb-true n _ d.0; months = leb-true n _ m.0; years = leb-true n _ y.0; codes = leb-true n _ y.1 }

-- rows that stay the same rows, step by step
pub same-then : {a b c : LentRows} → SameRows a b → SameRows b c → SameRows a c
same-then p q =
    record { days = q.days ∙ p.days; months = q.months ∙ p.months; years = q.years ∙ p.years; codes = q.codes ∙ p.codes }

module _ (s : List ℕ) (old : Rows) where
  pub nothing_walked : Room (length (lines s)) old → Walked s old old 0 0
  nothing_walked r =
      record { room = r; inside = omega arith; count = omega arith; days = refl; months = refl; years = refl; codes = refl }

  -- a line is left, and so is its cell in each row
  pub cell-left : (rows : Rows) (at i : ℕ) → Walked s old rows at i → at < length s → HasCell i rows
  cell-left rows at i u h =
      let some : 0 < length (lines (drop at s)) = rw (line-there s at h) (omega arith) in
      let left : suc i ≤ length (lines s) = omega (arith, u.count) in
      record {
        days = omega (arith, u.room.days, u.days);
        months = omega (arith, u.room.months, u.months);
        years = omega (arith, u.room.years, u.years);
        codes = omega (arith, u.room.codes, u.codes);
      }

  pub line-walked : (rows : Rows) (at i : ℕ) → Walked s old rows at i → at < length s → (code : ℕ) (row : List ℤ)
      → Walked s old (with_line i code row rows) (next_line s (line_end s at)) (i + 1)
  line-walked rows at i u h code row =
      record {
        room = u.room;
        inside = omega arith;
        count = omega (arith, u.count, ap length (line-there s at h));
        days = length-set rows.days i (cell_in DayOfMonth row) ∙ u.days;
        months = length-set rows.months i (cell_in Month row) ∙ u.months;
        years = length-set rows.years i (cell_in Year row) ∙ u.years;
        codes = length-set rows.codes i code ∙ u.codes;
      }

-- a turn of a walk over this text: the line there, and the next one's place
pub record Turned (s : List ℕ) (walk : LineReader) (line : Places) (moved : LineReader) : Type 0 where
  pub inside : walk.at < length s
  pub places : line ≡ places_at s walk.at
  pub same : moved.text.now ≡ s
  pub next : moved.at ≡ next_line s (line_end s walk.at)

pub turned : (s : List ℕ) (walk : LineReader) (line : Places) (moved : LineReader) → walk.text.now ≡ s → Walks walk (Some line) moved
    → Turned s walk line moved
turned s walk line moved e w =
    let places = rw e at w.2.1 in
    record {
      inside = rw e at w.2.0;
      places = places;
      same = w.1 ∙ e;
      next = w.2.2 ∙ ap (λ (p : Places). p.next) places;
    }

-- what a walk has left is counted
pub few-left : (s : List ℕ) (old rows : Rows) (at i : ℕ) → Walked s old rows at i
    → i + length (places_from (length s) at (lines (drop at s))) ≤ length s
few-left s old rows at i u = omega (arith, places-many (length s) at (lines (drop at s)), u.count, few-lines s)

abbrev line_at : List ℕ → ℕ → List ℕ
line_at s at = take (line_end s at - at) (drop at s)

module _ (reading : List ℕ → Result Reading Refusal) (s : List ℕ) (old : Rows) where
  pub nothing_read : Unfinished reading s old old 0 0
  nothing_read = record { held = refl }

  pub line-stored : (rows : Rows) (at i : ℕ) → Unfinished reading s old rows at i → at < length s → (code : ℕ) (row : List ℤ)
      → HasCells row code (reading (line_at s at)) → Unfinished reading s old (with_line i code row rows) (next_line s (line_end s at)) (i + 1)
  line-stored rows at i u h code row cells =
      record { held = rw (cells.day, cells.month, cells.year, cells.number, add-one i) (rw (line-there s at h) at u.held) }

  pub all_laid : (rows : Rows) (at i : ℕ) → Unfinished reading s old rows at i → length s ≤ at → rows ≡ laid (map reading (lines s)) old
  all_laid rows at i u h = rw (line-none s at h) at u.held
