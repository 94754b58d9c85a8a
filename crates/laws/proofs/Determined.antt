-- A promise that equates a result with a definition determines it: two results that it allows coincide, and so do two outputs.
-- Then the promise of each public function; that of the check is `answers-coincide` in `trust`, that of the day of a number
-- `days-coincide` in `DayNumbers`, that of a mending `mends-coincide` in `trust`.
use Rattle.std.specs.Prelude.{Option, Result}
use mathlib.Core.Bool.{Bool}
use mathlib.Core.List.{List}
use mathlib.Core.Path.{◌≡◌, sym, ◌∙◌}
use Prim.Native.Nat.{ℕ}
use lib.IntN.{ℤ}
use Rattle.meaning.specs.Answers.{Answer}
use Rattle.meaning.specs.Lists.{Rows}
use Rattle.meaning.specs.Names.{Book}
use Rattle.meaning.specs.Promises.{SameAnswer, Splits, Writes, Reads, ParsesOffset, TellsRead, NumbersDay, OpensBook, WritesBook, ReadsList, ReadsLine, Undoes, ReadsStamp, WritesStamp}
use Rattle.meaning.specs.declared.Change.{Change}
use Rattle.meaning.specs.declared.Choices.{Choices}
use Rattle.meaning.specs.Results.{DayNumber, Listed, Offset, Stamped, Undone, Wrote}
use Rattle.meaning.specs.declared.Fields.{Fields}
use Rattle.meaning.specs.declared.LineRead.{LineRead}
use Rattle.meaning.specs.declared.Pair.{Pair}
use Rattle.meaning.specs.declared.ParseUnit.{ParseUnit}
use Rattle.meaning.specs.declared.Reading.{Reading}
use Rattle.meaning.specs.declared.Split.{Split}
use Rattle.meaning.specs.declared.Refusal.{Refusal}
use Rattle.meaning.specs.declared.Stamp.{Stamp}

pub determined : {A : Type 0} {d r s : A} → r ≡ d → s ≡ d → r ≡ s
determined e f = e ∙ sym f

pub same-determined : {A : Type 0} {answer : A → Answer} {d r s : A} → SameAnswer answer r d → SameAnswer answer s d → r ≡ s
same-determined e f = determined e.whole f.whole

-- pattern::parse_format_string
pub splits-coincide : (p : List ℕ) {r s : Result Split Refusal} → Splits p r → Splits p s → r ≡ s
splits-coincide p = same-determined

-- writer::format and writer::date::format
pub writes-coincide : (pair : Pair) (book : Book) (p : List ℕ) (f : Fields) (out : List ℕ) {r s : Wrote} {after after' : List ℕ} → Writes pair book p f out r after → Writes pair book p f out s after' → (r ≡ s) × (after ≡ after')
writes-coincide pair book p f out w v = (same-determined w.0 v.0, determined w.1 v.1)

-- reader::parse_with, and reader::parse and reader::date::parse, which have no choice
pub reads-coincide : (choices : Choices) (book : Book) (p s : List ℕ) (current : ℤ) {r t : Result Reading Refusal} → Reads choices book p s current r
    → Reads choices book p s current t → r ≡ t
reads-coincide choices book p s current = same-determined

-- reader::offset::parse_offset
pub offsets-coincide : (s : List ℕ) {r t : Offset} → ParsesOffset s r → ParsesOffset s t → r ≡ t
offsets-coincide s = same-determined

-- reader::record::was_read
pub told-coincide : (mask : ℕ) (unit : ParseUnit) {r s : Bool} → TellsRead mask unit r → TellsRead mask unit s → r ≡ s
told-coincide mask unit = determined

-- calendar::day_number
pub day-numbers-coincide : (year : ℤ) (month day : ℕ) {r s : DayNumber} → NumbersDay year month day r → NumbersDay year month day s → r ≡ s
day-numbers-coincide year month day = same-determined

-- books::read_book and books::write_book
pub opened-coincide : (s out : List ℕ) {r t : Wrote} {after after' : List ℕ} → OpensBook s out r after → OpensBook s out t after' → (r ≡ t) × (after ≡ after')
opened-coincide s out w v = (same-determined w.0 v.0, determined w.1 v.1)

pub books-coincide : (row out : List ℕ) {r t : Wrote} {after after' : List ℕ} → WritesBook row out r after → WritesBook row out t after' → (r ≡ t) × (after ≡ after')
books-coincide row out w v = (same-determined w.0 v.0, determined w.1 v.1)

-- lists::read_list and lists::line::read_line
pub lists-coincide : (choices : Choices) (book : Book) (p s : List ℕ) (current : ℤ) (rows : Rows) {r t : Listed} {after after' : Rows}
    → ReadsList choices book p s current rows r after → ReadsList choices book p s current rows t after' → (r ≡ t) × (after ≡ after')
lists-coincide choices book p s current rows w v = (same-determined w.0 v.0, determined w.1 v.1)

pub lines-coincide : (choices : Choices) (book : Book) (p s : List ℕ) (at : ℕ) (current : ℤ) {r t : Option LineRead}
    → ReadsLine choices book p s at current r → ReadsLine choices book p s at current t → r ≡ t
lines-coincide choices book p s at current = determined

-- mending::undo
pub undoes-coincide : (p : List ℕ) (cs : List Change) (out : List ℕ) {r t : Undone} {after after' : List ℕ} → Undoes p cs out r after → Undoes p cs out t after' → (r ≡ t) × (after ≡ after')
undoes-coincide p cs out w v = (determined w.0 v.0, determined w.1 v.1)

-- stamps::read_stamp and stamps::write_stamp
pub stamps-coincide : (s : List ℕ) {r t : Stamped} → ReadsStamp s r → ReadsStamp s t → r ≡ t
stamps-coincide s = same-determined

pub stamp-writes-coincide : (stamp : Stamp) (out : List ℕ) {r t : Wrote} {after after' : List ℕ} → WritesStamp stamp out r after → WritesStamp stamp out t after' → (r ≡ t) × (after ≡ after')
stamp-writes-coincide stamp out w v = (same-determined w.0 v.0, determined w.1 v.1)
