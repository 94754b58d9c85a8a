-- Two results that a promise of `Sheet` allows coincide, with the rows and the output; those of the check but for the record
-- that a no shows.
use Rattle.std.specs.Prelude.{Result, Ok, Err}
use mathlib.Core.Bool.{Bool, true, false}
use mathlib.Core.List.{List, ◌∷◌, ◌++◌}
use mathlib.Core.Logic.{◌⊎◌, inl, inr}
use mathlib.Core.Path.{◌≡◌, refl, ap, ◌∙◌}
use Prim.Native.Nat.{ℕ, ◌≤◌}
use native.Mathlib.Omega.{arith}
use lib.IntN.{ℤ, pos}
use lib.ListN.{length, get_or, take, drop}
use lib.Seq.{sets-eq}
use borrow.Author.Tests.{leb-true}
use Rattle.laws.proofs.DayNumbers.{days-coincide}
use Rattle.laws.proofs.Determined.{determined}
use Rattle.laws.specs.CalendarLine.{Short}
use Rattle.meaning.specs.Answers.{Answer, field_numbers, verdict_answer}
use Rattle.meaning.specs.Lists.{Rows}
use Rattle.meaning.specs.Names.{Book}
use Rattle.meaning.specs.declared.Choices.{Choices}
use Rattle.meaning.specs.declared.Edition.{Edition}
use Rattle.meaning.specs.declared.Fields.{Fields}
use Rattle.meaning.specs.declared.Pair.{Pair}
use Rattle.meaning.specs.declared.Refusal.{Refusal}
use Rattle.meaning.specs.declared.Stamp.{Stamp}
use Rattle.meaning.specs.declared.Verdict.{Verdict}
use Rattle.meaning.specs.declared.Verdict.TheVariants.{Yes, No}
use Rattle.rows.specs.Rows.{in_row, Given}
use Rattle.sheet.specs.Numbers.{edition_of, of_check}
use Rattle.sheet.specs.Sheet.{has, if_room, if_choices, verdict_in, SheetWrites, SheetReads, SheetReadsWith, SheetWritesBy, SheetReadsBy, SheetReadsList, SheetReadsLine, SheetOpensBook, SheetWritesBook, SheetTellsRead, SheetParsesOffset, SheetSplits, SheetUnits, SheetChecks, SheetChecksWith, SheetMends, SheetUndoes, SheetDay, SheetDayNumber, SheetReadsStamp, SheetWritesStamp}
use Rattle.trust.proofs.Agreement.{SameButRecord, answers-coincide}

given-coincide : {answer : Answer} {old new new' : List ℤ} {r r' : ℕ} → Given answer old new r → Given answer old new' r' → (r ≡ r') × (new ≡ new')
given-coincide g h = (determined g.number h.number, determined g.row h.row)

-- an answer, and what else is altered
both-coincide : {answer : Answer} {old new new' : List ℤ} {r r' : ℕ} {A : Type 0} {d after after' : A}
    → Given answer old new r × (after ≡ d) → Given answer old new' r' × (after' ≡ d) → (r ≡ r') × (new ≡ new') × (after ≡ after')
both-coincide w v =
    let g = given-coincide w.0 v.0 in (g.0, g.1, determined w.1 v.1)

pub writes-coincide : (pair : Pair) (book : Book) (p : List ℕ) (f : Fields) (out : List ℕ) (row : List ℤ) {r r' : ℕ} {out_after out_after' : List ℕ} {row_after row_after' : List ℤ}
    → SheetWrites pair book p f out row r out_after row_after → SheetWrites pair book p f out row r' out_after' row_after'
    → (r ≡ r') × (row_after ≡ row_after') × (out_after ≡ out_after')
writes-coincide pair book p f out row = both-coincide

pub reads-coincide : (choices : Choices) (book : Book) (p s : List ℕ) (current : ℤ) (row : List ℤ) {r r' : ℕ} {row_after row_after' : List ℤ}
    → SheetReads choices book p s current row r row_after → SheetReads choices book p s current row r' row_after' → (r ≡ r') × (row_after ≡ row_after')
reads-coincide choices book p s current row = given-coincide

pub reads-with-coincide : (n : ℕ) (p s : List ℕ) (current : ℤ) (row : List ℤ) {r r' : ℕ} {row_after row_after' : List ℤ}
    → SheetReadsWith n p s current row r row_after → SheetReadsWith n p s current row r' row_after' → (r ≡ r') × (row_after ≡ row_after')
reads-with-coincide n p s current row = given-coincide

pub writes-by-coincide : (n : ℕ) (book p : List ℕ) (f : Fields) (out : List ℕ) (row : List ℤ) {r r' : ℕ} {out_after out_after' : List ℕ} {row_after row_after' : List ℤ}
    → SheetWritesBy n book p f out row r out_after row_after → SheetWritesBy n book p f out row r' out_after' row_after'
    → (r ≡ r') × (row_after ≡ row_after') × (out_after ≡ out_after')
writes-by-coincide n book p f out row = both-coincide

pub reads-by-coincide : (n : ℕ) (book p s : List ℕ) (current : ℤ) (row : List ℤ) {r r' : ℕ} {row_after row_after' : List ℤ}
    → SheetReadsBy n book p s current row r row_after → SheetReadsBy n book p s current row r' row_after' → (r ≡ r') × (row_after ≡ row_after')
reads-by-coincide n book p s current row = given-coincide

pub lists-coincide : (n : ℕ) (book p s : List ℕ) (current : ℤ) (rows : Rows) (row : List ℤ) {r r' : ℕ} {rows_after rows_after' : Rows} {row_after row_after' : List ℤ}
    → SheetReadsList n book p s current rows row r rows_after row_after → SheetReadsList n book p s current rows row r' rows_after' row_after'
    → (r ≡ r') × (row_after ≡ row_after') × (rows_after ≡ rows_after')
lists-coincide n book p s current rows row = both-coincide

pub lines-coincide : (n : ℕ) (book p s : List ℕ) (at : ℕ) (current : ℤ) (row : List ℤ) {r r' : ℕ} {row_after row_after' : List ℤ}
    → SheetReadsLine n book p s at current row r row_after → SheetReadsLine n book p s at current row r' row_after' → (r ≡ r') × (row_after ≡ row_after')
lines-coincide n book p s at current row = given-coincide

pub opened-coincide : (s book : List ℕ) (row : List ℤ) {r r' : ℕ} {book_after book_after' : List ℕ} {row_after row_after' : List ℤ}
    → SheetOpensBook s book row r book_after row_after → SheetOpensBook s book row r' book_after' row_after'
    → (r ≡ r') × (row_after ≡ row_after') × (book_after ≡ book_after')
opened-coincide s book row = both-coincide

pub books-coincide : (book out : List ℕ) (row : List ℤ) {r r' : ℕ} {out_after out_after' : List ℕ} {row_after row_after' : List ℤ}
    → SheetWritesBook book out row r out_after row_after → SheetWritesBook book out row r' out_after' row_after'
    → (r ≡ r') × (row_after ≡ row_after') × (out_after ≡ out_after')
books-coincide book out row = both-coincide

pub told-coincide : (mask : ℤ) (unit : ℕ) {r r' : ℕ} → SheetTellsRead mask unit r → SheetTellsRead mask unit r' → r ≡ r'
told-coincide mask unit = determined

pub offsets-coincide : (s : List ℕ) (row : List ℤ) {r r' : ℕ} {row_after row_after' : List ℤ}
    → SheetParsesOffset s row r row_after → SheetParsesOffset s row r' row_after' → (r ≡ r') × (row_after ≡ row_after')
offsets-coincide s row = given-coincide

pub splits-coincide : (p : List ℕ) (row parts : List ℤ) {r r' : ℕ} {row_after row_after' parts_after parts_after' : List ℤ}
    → SheetSplits p row parts r row_after parts_after → SheetSplits p row parts r' row_after' parts_after'
    → (r ≡ r') × (row_after ≡ row_after') × (parts_after ≡ parts_after')
splits-coincide p row parts = both-coincide

pub units-coincide : (p : List ℕ) (row units : List ℤ) {r r' : ℕ} {row_after row_after' units_after units_after' : List ℤ}
    → SheetUnits p row units r row_after units_after → SheetUnits p row units r' row_after' units_after'
    → (r ≡ r') × (row_after ≡ row_after') × (units_after ≡ units_after')
units-coincide p row units = both-coincide

pub mends-coincide : (n : ℕ) (p : List ℕ) (current : ℤ) (out : List ℕ) (changes row : List ℤ) {r r' : ℕ} {out_after out_after' : List ℕ} {changes_after changes_after' row_after row_after' : List ℤ}
    → SheetMends n p current out changes row r out_after changes_after row_after → SheetMends n p current out changes row r' out_after' changes_after' row_after'
    → (r ≡ r') × (row_after ≡ row_after') × (out_after ≡ out_after') × (changes_after ≡ changes_after')
mends-coincide n p current out changes row a b =
    let g = both-coincide (a.0, a.1) (b.0, b.1) in (g.0, g.1, g.2, determined a.2 b.2)

pub undos-coincide : (p : List ℕ) (changes : List ℤ) (out : List ℕ) (row : List ℤ) {r r' : ℕ} {out_after out_after' : List ℕ} {row_after row_after' : List ℤ}
    → SheetUndoes p changes out row r out_after row_after → SheetUndoes p changes out row r' out_after' row_after'
    → (r ≡ r') × (row_after ≡ row_after') × (out_after ≡ out_after')
undos-coincide p changes out row = both-coincide

pub day-rows-coincide : (z : ℤ) (row : List ℤ) → Short z → {r r' : ℕ} {row_after row_after' : List ℤ} → SheetDay z row r row_after
    → SheetDay z row r' row_after' → (r ≡ r') × (row_after ≡ row_after')
day-rows-coincide z row short a b =
    let same = days-coincide z a.day b.day short a.is b.is in
    given-coincide a.given (rw (← same) at b.given)

pub day-number-rows-coincide : (year : ℤ) (month day : ℕ) (row : List ℤ) {r r' : ℕ} {row_after row_after' : List ℤ}
    → SheetDayNumber year month day row r row_after → SheetDayNumber year month day row r' row_after' → (r ≡ r') × (row_after ≡ row_after')
day-number-rows-coincide year month day row = given-coincide

pub stamps-coincide : (s : List ℕ) (row : List ℤ) {r r' : ℕ} {row_after row_after' : List ℤ}
    → SheetReadsStamp s row r row_after → SheetReadsStamp s row r' row_after' → (r ≡ r') × (row_after ≡ row_after')
stamps-coincide s row = given-coincide

pub stamp-writes-coincide : (mark : ℕ) (stamp : Stamp) (out : List ℕ) (row : List ℤ) {r r' : ℕ} {out_after out_after' : List ℕ} {row_after row_after' : List ℤ}
    → SheetWritesStamp mark stamp out row r out_after row_after → SheetWritesStamp mark stamp out row r' out_after' row_after'
    → (r ≡ r') × (row_after ≡ row_after') × (out_after ≡ out_after')
stamp-writes-coincide mark stamp out row = both-coincide

-- the check

-- a no: 0 is returned, and the row starts with 0
abbrev pub SaysNo : ℕ → List ℤ → Type 0
SaysNo r row = (r ≡ 0) × (get_or row 0 (pos 1) ≡ pos 0)

-- the same number, and rows that are the same before the record and behind it; and all the same, unless they say no
pub record SameCheck (r r' : ℕ) (row row' : List ℤ) : Type 0 where
  pub number : r ≡ r'
  pub before : take 2 row ≡ take 2 row'
  pub behind : drop 10 row ≡ drop 10 row'
  pub all : SaysNo r row ⊎ (row ≡ row')

same_check : {r r' : ℕ} {row row' : List ℤ} → (r ≡ r') × (row ≡ row') → SameCheck r r' row row'
same_check e =
    record { number = e.0; before = ap (take 2) e.1; behind = ap (drop 10) e.1; all = inr e.1 }

abbrev no_numbers : ℕ → Fields → List ℤ
no_numbers part f = pos 0 ∷ pos part ∷ field_numbers f

module _ {row after after' : List ℤ} {r r' : ℕ} where
  no-check : (part : ℕ) (f g : Fields) → 10 ≤ length row
      → Given (in_row 10 (verdict_answer (Ok (No part f)))) row after r → Given (in_row 10 (verdict_answer (Ok (No part g)))) row after' r' → SameCheck r r' after after'
  no-check part f g h x y =
      let e : after ≡ no_numbers part f ++ drop 10 row = x.row ∙ sets-eq (no_numbers part f) row 0 h in
      let e' : after' ≡ no_numbers part g ++ drop 10 row = y.row ∙ sets-eq (no_numbers part g) row 0 h in
      record {
        number = determined x.number y.number;
        before = determined (ap (take 2) e) (ap (take 2) e');
        behind = determined (ap (drop 10) e) (ap (drop 10) e');
        all = inl (x.number, ap (λ (l : List ℤ). get_or l 0 (pos 1)) e);
      }

  verdicts-coincide : (v w : Result Verdict Refusal) → 10 ≤ length row → SameButRecord v w
      → Given (in_row 10 (verdict_answer v)) row after r → Given (in_row 10 (verdict_answer w)) row after' r' → SameCheck r r' after after'
  verdicts-coincide (Ok (No i f)) (Ok (No j g)) h e x y = let same : i ≡ j = cc in no-check i f g h x (rw (← same) at y)
  verdicts-coincide (Ok Yes) (Ok Yes) h e x y = same_check (given-coincide x y)
  verdicts-coincide (Ok Yes) (Ok (No j g)) h e x y = absurd (let z : ◌≡◌ {A = ℕ} 0 1 = cc in omega arith)
  verdicts-coincide (Ok (No i f)) (Ok Yes) h e x y = absurd (let z : ◌≡◌ {A = ℕ} 0 1 = cc in omega arith)
  verdicts-coincide (Ok Yes) (Err why) h e x y = absurd (let z : ◌≡◌ {A = ℕ} 0 1 = cc in omega arith)
  verdicts-coincide (Ok (No i f)) (Err why) h e x y = absurd (let z : ◌≡◌ {A = ℕ} 0 1 = cc in omega arith)
  verdicts-coincide (Err why) (Ok Yes) h e x y = absurd (let z : ◌≡◌ {A = ℕ} 0 1 = cc in omega arith)
  verdicts-coincide (Err why) (Ok (No j g)) h e x y = absurd (let z : ◌≡◌ {A = ℕ} 0 1 = cc in omega arith)
  verdicts-coincide (Err why) (Err why') h e x y =
      let same : why ≡ why' = cc in
      same_check (given-coincide x (rw (← same) at y))

  checks-by : (room : Bool) (v w : Result Verdict Refusal) → (room ≡ true → 10 ≤ length row) → SameButRecord v w
      → Given (if_room room (in_row 10 (verdict_answer v))) row after r → Given (if_room room (in_row 10 (verdict_answer w))) row after' r' → SameCheck r r' after after'
  checks-by true v w h e x y = verdicts-coincide v w (h refl) e x y
  checks-by false v w h e x y = same_check (given-coincide x y)

pub checks-coincide : (edition : Edition) (p : List ℕ) (current : ℤ) (row : List ℤ) {r r' : ℕ} {row_after row_after' : List ℤ}
    → SheetChecks edition p current row r row_after → SheetChecks edition p current row r' row_after' → SameCheck r r' row_after row_after'
checks-coincide edition p current row a b =
    checks-by (has 10 row) a.verdict b.verdict (leb-true 10 (length row))
    (answers-coincide edition p current a.verdict b.verdict a.says b.says) a.given b.given

pub checks-with-coincide : (n : ℕ) (p : List ℕ) (current : ℤ) (row : List ℤ) {r r' : ℕ} {row_after row_after' : List ℤ}
    → SheetChecksWith n p current row r row_after → SheetChecksWith n p current row r' row_after' → SameCheck r r' row_after row_after'
checks-with-coincide n p current row {r} {r'} {row_after} {row_after'} a b = go (of_check n) a.given b.given
  where
    go : (stands : Bool) → Given (if_choices stands (verdict_in row a.verdict)) row row_after r
        → Given (if_choices stands (verdict_in row b.verdict)) row row_after' r' → SameCheck r r' row_after row_after'
    go true x y =
        checks-by (has 10 row) a.verdict b.verdict (leb-true 10 (length row))
        (answers-coincide (edition_of n) p current a.verdict b.verdict a.says b.says) x y
    go false x y = same_check (given-coincide x y)
