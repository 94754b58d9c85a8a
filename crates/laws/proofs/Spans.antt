-- The laws of spans. Of an accepted reading: a unit's span lies in the bytes read and is not empty, those of two units do not overlap,
-- and the part that gave the value gives it again from the bytes of the span alone. Units that were not read have zeros, and so has
-- all of a refused reading.
use Rattle.std.specs.Prelude.{Result, Ok, Err, Option, Some, None}
use mathlib.Core.Bool.{true, false}
use mathlib.Core.List.{List, [], ◌∷◌, map}
use mathlib.Core.Logic.{◌⊎◌}
use mathlib.Core.Path.{◌≡◌, refl, sym, ap, ◌∙◌}
use Prim.Native.Nat.{ℕ, suc, ◌+◌, ◌-◌, ◌≤◌, ◌<◌}
use native.Mathlib.Omega.{arith}
use lib.Dec.{ltb}
use lib.IntN.{ℤ, pos, nat_abs}
use lib.ListN.{length, drop, replicate, length-drop}
use lib.Seq.{drop-cons, drop-drop}
use borrow.Author.Tests.{eqb-true}
use Rattle.meaning.specs.Bytes.{both}
use Rattle.meaning.specs.Names.{Book}
use Rattle.meaning.specs.Readers.{Got, got, stopped}
use Rattle.meaning.specs.Reading.{value, read_step}
use Rattle.meaning.specs.Trust.{part_at}
use Rattle.meaning.specs.Whole.{Gave, Walk, walked, refused_at, walked_by, walk, unit_number, is_of, value_in, last_of, was_read, value_of, began_at, ended_at, fifteen, marked, reading_of, record_of, read_by, read_check, read}
use Rattle.meaning.specs.Writing.{Step, steps}
use Rattle.meaning.specs.declared.Carried.{Carried}
use Rattle.meaning.specs.Results.{Checked}
use Rattle.meaning.specs.declared.Choices.{Choices}
use Rattle.meaning.specs.declared.ParseUnit.{ParseUnit}
use Rattle.meaning.specs.declared.Reading.{Reading}
use Rattle.meaning.specs.declared.Refusal.{Refusal}
use Rattle.laws.specs.Spans.{span_start, span_end, value_at, ReadFrom, ReadAgain}
use Rattle.laws.proofs.Entries.{AllOf, LastOf, last-of, not-read, InOrder, ended_by, entries-apart}
use Rattle.laws.proofs.Marks.{entries, get-entry, marked-bits}
use Rattle.laws.proofs.OwnText.{whole_letters, own-text, letters-whole}
use Rattle.laws.proofs.Pluses.{behind_part}
use Rattle.laws.proofs.SomeBytes.{some_names, carries-some, names_there, names-there}
use Rattle.laws.proofs.Table.{step_passes}
use Rattle.laws.proofs.Tests.{true-is-not-false, when-is, every, every-at}

-- The walk keeps its entries in order, each with the part that it is from. It is refused by a refusal.

abbrev pub FromPart : Choices → Book → ℕ → List Step → List ℕ → Gave → Type 0
FromPart choices book current ss text g = ReadFrom choices book current ss text g.start g.end g.carried

pub record Kept (choices : Choices) (book : Book) (current : ℕ) (ss : List Step) (text : List ℕ) (at : ℕ) (gave : List Gave) : Type 0 where
  pub in-text : at ≤ length text
  pub in_order : InOrder at gave
  pub from : AllOf (FromPart choices book current ss text) gave

abbrev pub Walks : Choices → Book → ℕ → List Step → List ℕ → Walk → Type 0
Walks choices book current ss text (walked taken gave) = Kept choices book current ss text taken gave
Walks choices book current ss text (refused_at why) = Unit

-- the first of the parts from i on
record PartThere (ss : List Step) (i : ℕ) (step : Step) (rest : List Step) : Type 0 where
  there : i < length ss
  is : part_at ss i ≡ step
  behind : drop (suc i) ss ≡ rest

part-there : (ss : List Step) (i : ℕ) (step : Step) (rest : List Step) → drop i ss ≡ step ∷ rest → PartThere ss i step rest
part-there ss i step rest e =
    let h : i < length ss = omega (arith, length-drop i ss, ap length e) in
    let split : drop i ss ≡ part_at ss i ∷ drop (suc i) ss = drop-cons ss i _ h in
    record { there = h; is = cc; behind = cc }

module _ (choices : Choices) (book : Book) (current : ℕ) (ss : List Step) (text : List ℕ) (whole : every (step_passes (whole_letters book)) ss ≡ true) where
  kept-one : (i at n : ℕ) (c : Option Carried) (gave : List Gave) → i < length ss → Kept choices book current ss text at gave
      → read_step choices book current (part_at ss i) (drop at text) ≡ got n c
      → Kept choices book current ss text (at + n) (record { carried = c; start = at; end = at + n } ∷ gave)
  unfolding InOrder AllOf
  kept-one i at n c gave h k e =
      let o = own-text choices book current (part_at ss i) (drop at text) (every-at (step_passes (whole_letters book)) ss _ whole i h) e in
      let m : at + n - at ≡ n = omega arith in
      record {
        in-text = omega (arith, k.in-text, length-drop at text);
        in_order = (omega arith, omega arith, k.in_order);
        from = (record { part = i; there = h; reads = rw m o.1 }, k.from);
      }

  behind-part : (i at : ℕ) (next : ℕ → Option Carried → Walk) (g : Got (Option Carried)) → ((n : ℕ) (c : Option Carried) → g ≡ got n c → Walks choices book current ss text (next n c))
      → Walks choices book current ss text (behind_part i at next g)
  behind-part i at next (got n c) h = h n c refl
  behind-part i at next (stopped why place) h = tt

  -- from part i on, at a place
  pub walks : (i at : ℕ) (rest : List Step) (gave : List Gave) → drop i ss ≡ rest → Kept choices book current ss text at gave
      → Walks choices book current ss text (walk choices book current i at rest (drop at text) gave)
  unfolding walk
  walks i at [] gave e h =
      when-is (λ (c : Checked). Walks choices book current ss text (walked_by c at gave)) (both choices.strict (ltb 0 (length (drop at text))))
      (λ _. tt) (λ _. h)
  walks i at (step ∷ rest) gave e h =
      let t = part-there ss i step rest e in
      behind-part i at _ (read_step choices book current step (drop at text))
      (λ n c d. rw (drop-drop n at text) (walks (suc i) (at + n) rest _ t.behind (kept-one i at n c gave t.there h (rw t.is d))))

-- a reading that is accepted, and what its rows hold

record Accepted (choices : Choices) (book : Book) (current : ℕ) (ss : List Step) (text : List ℕ) (r : Reading) : Type 0 where
  taken : ℕ
  gave : List Gave
  is : r ≡ reading_of taken gave
  kept : Kept choices book current ss text taken gave

accepted : (choices : Choices) (book : Book) (current : ℕ) (ss : List Step) (text : List ℕ) (checked : Checked) (w : Walk) (r : Reading)
    → Walks choices book current ss text w → Ok r ≡ read_by checked w → Accepted choices book current ss text r
accepted choices book current ss text (Ok _) (walked taken gave) r h e = record { taken = taken; gave = gave; is = cc; kept = h }
accepted choices book current ss text (Ok _) (refused_at why) r h e = absurd (let z : ◌≡◌ {A = ℕ} 0 1 = cc in omega arith)
accepted choices book current ss text (Err why) w r h e = absurd (let z : ◌≡◌ {A = ℕ} 0 1 = cc in omega arith)

-- the rows at k
record RowsAt (r : Reading) (gave : List Gave) (k : ℕ) : Type 0 where
  marks : marked r.mask k ≡ was_read gave k
  starts : span_start r k ≡ began_at gave k
  ends : span_end r k ≡ ended_at gave k
  values : value_at r k ≡ value_of gave k

row : (taken : ℕ) (gave : List Gave) (k : ℕ) → k < 15 → RowsAt (reading_of taken gave) gave k
unfolding entries
row taken gave k h =
    record {
      marks = marked-bits (map (was_read gave) fifteen) k ∙ get-entry 15 (was_read gave) false k h;
      starts = get-entry 15 (began_at gave) 0 k h;
      ends = get-entry 15 (ended_at gave) 0 k h;
      values = get-entry 15 (value_of gave) (pos 0) k h;
    }

row_as : {r t : Reading} (gave : List Gave) (k : ℕ) → r ≡ t → RowsAt t gave k → RowsAt r gave k
row_as gave k e h = rw e h

-- an entry of a unit carries a value of it, and that took a byte

unit-of : (c : Option Carried) (k : ℕ) → is_of k c ≡ true → (u : ParseUnit) × (unit_number u ≡ k) × (c ≡ value u (value_in c))
unit-of None k e = true-is-not-false (sym e)
unit-of (Some c) k e = (c.unit, eqb-true (unit_number c.unit) k e, refl)

span-some : (choices : Choices) (book : Book) (current : ℕ) (ss : List Step) (text : List ℕ) → every (step_passes (some_names book)) ss ≡ true
    → (start end : ℕ) (c : Option Carried) (k : ℕ) → is_of k c ≡ true → ReadFrom choices book current ss text start end c → start < end
span-some choices book current ss text there start end c k e from =
    let u = unit-of c k e in
    let taken : 0 < end - start = carries-some choices book current (part_at ss from.part) _
    (every-at (step_passes (some_names book)) ss _ there from.part from.there) (rw u.2 at from.reads) in
    omega arith

-- the laws

module _ (choices : Choices) (book : Book) (p s : List ℕ) (current : ℤ) (r : Reading) (is : Ok r ≡ read choices book p s current) where
  entries-of : Accepted choices book (nat_abs current) (steps choices.pair p) s r
  unfolding read InOrder AllOf
  entries-of =
      let ss = steps choices.pair p in
      accepted choices book (nat_abs current) ss s (read_check choices.edition p s current) (walk choices book (nat_abs current) 0 0 ss s []) r
      (walks choices book (nat_abs current) ss s (letters-whole book choices.pair p) 0 0 ss [] refl
      (record { in-text = omega arith; in_order = tt; from = tt })) is

  row_of : (k : ℕ) → k < 15 → RowsAt r entries-of.gave k
  row_of k h = row_as entries-of.gave k entries-of.is (row entries-of.taken entries-of.gave k h)

  last_entry : (k : ℕ) → k < 15 → marked r.mask k ≡ true
      → LastOf (FromPart choices book (nat_abs current) (steps choices.pair p) s) entries-of.gave k
  last_entry k h e = last-of _ entries-of.gave k entries-of.kept.from (sym (row_of k h).marks ∙ e)

  pub spans-inside : names_there book ≡ true → (k : ℕ) → k < 15 → marked r.mask k ≡ true
      → (span_start r k < span_end r k) × (span_end r k ≤ r.taken) × (r.taken ≤ length s)
  spans-inside there k h e =
      let w = row_of k h in
      let l = last_entry k h e in
      let some' = span-some choices book (nat_abs current) (steps choices.pair p) s (names-there book there choices.pair p)
      l.entry.start l.entry.end l.entry.carried k l.of-unit l.has in
      let taken = ap (λ (t : Reading). t.taken) entries-of.is in
      let end = ended_by entries-of.taken entries-of.gave k entries-of.kept.in_order (sym w.marks ∙ e) in
      (omega (arith, w.starts, w.ends, l.start, l.end), omega (arith, w.ends), omega (arith, entries-of.kept.in-text))

  pub spans-unread : (k : ℕ) → k < 15 → marked r.mask k ≡ false → (span_start r k ≡ 0) × (span_end r k ≡ 0)
  spans-unread k h e =
      let w = row_of k h in
      let not' = sym w.marks ∙ e in
      (w.starts ∙ not-read _ 0 entries-of.gave k not', w.ends ∙ not-read _ 0 entries-of.gave k not')

  pub spans_apart : (j k : ℕ) → j < 15 → k < 15 → (j ≡ k → ⊥) → marked r.mask j ≡ true → marked r.mask k ≡ true
      → (span_end r j ≤ span_start r k) ⊎ (span_end r k ≤ span_start r j)
  spans_apart j k h l ne d e =
      let v = row_of j h in
      let w = row_of k l in
      rw (v.starts, v.ends, w.starts, w.ends)
      (entries-apart entries-of.taken entries-of.gave j k entries-of.kept.in_order ne (sym v.marks ∙ d) (sym w.marks ∙ e))

  pub spans-read : (k : ℕ) → k < 15 → marked r.mask k ≡ true → ReadAgain choices book (nat_abs current) (steps choices.pair p) s r k
  spans-read k h e =
      let w = row_of k h in
      let l = last_entry k h e in
      let u = unit-of l.entry.carried k l.of-unit in
      record { unit = u.0; is = u.1; from = rw (w.starts, w.ends, w.values, l.start, l.end, l.value, ← u.2) l.has }

-- nothing but zeros stands for a refused reading
pub spans-refused : (choices : Choices) (book : Book) (p s : List ℕ) (current : ℤ) (r : Result Reading Refusal) → r ≡ read choices book p s current
    → {why : Refusal} → r ≡ Err why → ((record_of r).starts ≡ replicate 15 0) × ((record_of r).ends ≡ replicate 15 0)
unfolding last_of
spans-refused choices book p s current r is e = rw e (refl, refl)
