-- The laws of lists. The first line of a text is the one before its first newline, and behind that stand the other lines; so the lines
-- are found by places, one after the other. How many there are is told by the newlines. And line i's cells depend on line i alone.
use Rattle.std.specs.Prelude.{Option, Some, None, Result, Ok}
use mathlib.Core.Bool.{true, false}
use mathlib.Core.List.{List, [], ◌∷◌, map}
use mathlib.Core.Path.{◌≡◌, refl, sym, ap, ◌∙◌}
use Prim.Native.Nat.{ℕ, zero, suc, ◌+◌, ◌-◌, ◌≤◌, ◌<◌, min}
use native.Mathlib.Omega.{arith}
use lib.Dec.{eqb, leb, ltb}
use lib.IntN.{ℤ, pos}
use lib.ListN.{length, get_or, set, take, drop, length-take, length-drop, length-map, drop_of_length-le, get_or-append}
use lib.Seq.{sets, sets-eq, drop-cons, drop-drop, drop-length, get_or-set_other}
use native.Mathlib.Numerals.{add-one}
use borrow.Author.Tests.{eq-eqb, ne_eqb, leb-true, leb-false, ltb-true, ltb-false}
use Rattle.meaning.specs.Answers.{◌else◌, refuse_unless, pattern_check, current_year_check}
use Rattle.meaning.specs.Bytes.{when, both}
use Rattle.meaning.specs.Lists.{newline, before, lines, read_lines, Rows, cell, code_of, laid, hold, list_check, list_rows, line_at, read_line}
use Rattle.meaning.specs.Names.{Book}
use Rattle.meaning.specs.Whole.{read}
use Rattle.meaning.specs.declared.Choices.{Choices}
use Rattle.meaning.specs.declared.LineRead.{LineRead}
use Rattle.meaning.specs.declared.ParseUnit.TheVariants.{Year, Month, DayOfMonth}
use Rattle.meaning.specs.declared.Reading.{Reading}
use Rattle.meaning.specs.declared.Refusal.{Refusal}
use Rattle.meaning.specs.declared.Refusal.TheVariants.{ShortRow}
use Rattle.laws.specs.Lists.{line_length, line_end, next_line, newlines, cells_at, cells_of, stepped}
use Rattle.laws.proofs.Checks.{else-fine, fine-unless}
use Rattle.laws.proofs.Tests.{by-test, both_true}

-- a byte more in front

lines-newline : (b : ℕ) (s : List ℕ) → eqb b newline ≡ true → lines (b ∷ s) ≡ [] ∷ lines s
unfolding lines
lines-newline b s e = rw (e, lines)

lines-byte : (b : ℕ) (s : List ℕ) → eqb b newline ≡ false → lines (b ∷ s) ≡ before b (lines s)
unfolding lines
lines-byte b s e = rw (e, lines)

length-newline : (b : ℕ) (s : List ℕ) → eqb b newline ≡ true → line_length (b ∷ s) ≡ 0
unfolding line_length
length-newline b s e = rw (e, line_length)

length-byte : (b : ℕ) (s : List ℕ) → eqb b newline ≡ false → line_length (b ∷ s) ≡ suc (line_length s)
unfolding line_length
length-byte b s e = rw (e, line_length)

lines_none : lines [] ≡ []
unfolding lines
lines_none = refl

length_none : line_length [] ≡ 0
unfolding line_length
length_none = refl

-- the first line, and those behind its newline
pub lines_step : (s : List ℕ) → 0 < length s → lines s ≡ take (line_length s) s ∷ lines (drop (suc (line_length s)) s)
lines_step [] h = absurd (omega arith)
lines_step (b ∷ []) h =
    by-test (eqb b newline) (λ e. lines-newline b [] e ∙ rw (length-newline b [] e))
    (λ e. lines-byte b [] e ∙ rw (length-byte b [] e, length_none, lines_none))
lines_step (b ∷ c ∷ s) h =
    by-test (eqb b newline) (λ e. lines-newline b (c ∷ s) e ∙ rw (length-newline b (c ∷ s) e))
    (λ e. lines-byte b (c ∷ s) e ∙ rw (length-byte b (c ∷ s) e, lines_step (c ∷ s) (omega arith)))

-- by places: the line at a place, and those from the next line's place on; none behind the end

line-inside : (s : List ℕ) → line_length s ≤ length s
line-inside [] = omega (arith, length_none)
line-inside (b ∷ s) =
    by-test (eqb b newline) (λ e. omega (arith, length-newline b s e)) (λ e. omega (arith, length-byte b s e, line-inside s))

pub end-inside : (s : List ℕ) (at : ℕ) → at ≤ length s → line_end s at ≤ length s
end-inside s at h = omega (arith, line-inside (drop at s), length-drop at s)

drop_past : (s : List ℕ) (n : ℕ) → drop (min n (length s)) s ≡ drop n s
drop_past s n =
    by-test (leb n (length s)) (λ e. let m : min n (length s) ≡ n = omega (arith, leb-true n (length s) e) in rw m)
    (λ e.
    let past : length s ≤ n = omega (arith, leb-false n (length s) e) in
    let m : min n (length s) ≡ length s = omega arith in
    rw (m, drop-length s) (sym (drop_of_length-le s past)))

pub line-there : (s : List ℕ) (at : ℕ) → at < length s
    → lines (drop at s) ≡ take (line_end s at - at) (drop at s) ∷ lines (drop (next_line s (line_end s at)) s)
line-there s at h =
    let some : 0 < length (drop at s) = omega (arith, length-drop at s) in
    let long : line_end s at - at ≡ line_length (drop at s) = omega arith in
    let next : suc (line_end s at) ≡ at + suc (line_length (drop at s)) = omega arith in
    lines_step (drop at s) some ∙ rw (long, drop_past s (suc (line_end s at)), next, ← drop-drop)

pub line-none : (s : List ℕ) (at : ℕ) → length s ≤ at → lines (drop at s) ≡ []
line-none s at h = rw (drop_of_length-le s h) lines_none

-- a turn of a loop that looks for a line's end

pub end-found : (s : List ℕ) (i : ℕ) → i < length s → get_or s i 0 ≡ newline → line_end s i ≡ i
end-found s i h e =
    let d : drop i s ≡ get_or s i 0 ∷ drop (suc i) s = drop-cons s i 0 h in
    rw d (omega (arith, length-newline (get_or s i 0) (drop (suc i) s) (eq-eqb (get_or s i 0) newline e)))

pub end-further : (s : List ℕ) (i : ℕ) → i < length s → (get_or s i 0 ≡ newline → ⊥) → line_end s (i + 1) ≡ line_end s i
end-further s i h e =
    let d : drop i s ≡ get_or s i 0 ∷ drop (suc i) s = drop-cons s i 0 h in
    rw (d, add-one) (omega (arith, length-byte (get_or s i 0) (drop (suc i) s) (ne_eqb (get_or s i 0) newline e)))

pub end-last : (s : List ℕ) (i : ℕ) → length s ≤ i → line_end s i ≡ i
end-last s i h = rw (drop_of_length-le s h) (omega (arith, length_none))

-- how many there are: one for each newline, and one more where the last byte is none

newlines-more : (b : ℕ) (s : List ℕ) → newlines (b ∷ s) ≡ when (eqb b newline) 1 0 + newlines s
unfolding newlines
newlines-more b s = refl

pub newlines-none : newlines [] ≡ 0
unfolding newlines
newlines-none = refl

pub newlines-further : (s : List ℕ) (i : ℕ) → i < length s
    → newlines (drop i s) ≡ when (eqb (get_or s i 0) newline) 1 0 + newlines (drop (i + 1) s)
newlines-further s i h = ap newlines (drop-cons s i 0 h) ∙ rw (add-one i) (newlines-more (get_or s i 0) (drop (suc i) s))

lines-some : (s : List ℕ) → 0 < length s → 0 < length (lines s)
lines-some s h = rw (lines_step s h) (omega arith)

length_before : (b : ℕ) (ls : List (List ℕ)) → 0 < length ls → length (before b ls) ≡ length ls
length_before b [] h = absurd (omega arith)
length_before b (line ∷ ls) h = refl

pub lines-count : (s : List ℕ) → 0 < length s → length (lines s) ≡ newlines s + when (eqb (get_or s (length s - 1) 0) newline) 0 1
lines-count [] h = absurd (omega arith)
lines-count (b ∷ []) h =
    by-test (eqb b newline) (λ e. rw (lines-newline b [] e, newlines-more, e, lines_none, newlines-none))
    (λ e. rw (lines-byte b [] e, newlines-more, e, lines_none, newlines-none))
lines-count (b ∷ c ∷ s) h =
    let more = lines-count (c ∷ s) (omega arith) in
    let last : length (b ∷ c ∷ s) - 1 ≡ suc (length (c ∷ s) - 1) = omega arith in
    by-test (eqb b newline) (λ e. rw (lines-newline b (c ∷ s) e, newlines-more b (c ∷ s), e, last) (omega (arith, more)))
    (λ e. rw (lines-byte b (c ∷ s) e, newlines-more b (c ∷ s), e, length_before b (lines (c ∷ s)) (lines-some (c ∷ s) (omega arith)), last) (omega (arith, more)))

-- The rows afterwards: line i's cells are those of line i, read by itself, and cells past the last line are as they were.

module _ {A B : Type 0} (f : A → B) where
  get-map : (l : List A) (i : ℕ) (d : A) (e : B) → i < length l → get_or (map f l) i e ≡ f (get_or l i d)
  get-map [] i d e h = absurd (omega arith)
  get-map (a ∷ l) zero d e h = refl
  get-map (a ∷ l) (suc i) d e h = get-map l i d e (omega arith)

  get-laid : (l : List A) (row : List B) (i : ℕ) (d : A) (e : B) → i < length l → length l ≤ length row → get_or (sets row 0 (map f l)) i e ≡ f (get_or l i d)
  get-laid l row i d e h k =
      let n : length (map f l) ≡ length l = length-map l f in
      ap (λ (r : List B). get_or r i e) (sets-eq (map f l) row 0 (omega arith)) ∙ get_or-append (map f l) _ e i (omega arith) ∙ get-map l i d e h

get-past : {B : Type 0} (row : List B) (j : ℕ) (vs : List B) (i : ℕ) (e : B) → j + length vs ≤ i → get_or (sets row j vs) i e ≡ get_or row i e
get-past row j [] i e h = refl
get-past row j (v ∷ vs) i e h = get-past (set row j v) (suc j) vs i e (omega arith) ∙ get_or-set_other row j i v e (omega arith)

pub record Room (n : ℕ) (rows : Rows) : Type 0 where
  pub days : n ≤ length rows.days
  pub months : n ≤ length rows.months
  pub years : n ≤ length rows.years
  pub codes : n ≤ length rows.codes

room : (n : ℕ) (rows : Rows) → hold n rows ≡ true → Room n rows
room n rows h =
    let d = leb n (length rows.days) in
    let m = leb n (length rows.months) in
    let y = leb n (length rows.years) in
    let c = leb n (length rows.codes) in
    let a = both_true d (both m (both y c)) h in
    let b = both_true m (both y c) a.1 in
    let e = both_true y c b.1 in
    record {
      days = leb-true n _ a.0;
      months = leb-true n _ b.0;
      years = leb-true n _ e.0;
      codes = leb-true n _ e.1;
    }

module _ (rs : List (Result Reading Refusal)) (rows : Rows) where
  cells-laid : (i : ℕ) (d : Result Reading Refusal) → i < length rs → Room (length rs) rows → cells_at i (laid rs rows) ≡ cells_of (get_or rs i d)
  cells-laid i d h r =
      rw (
        get-laid (cell DayOfMonth) rs rows.days i d (pos 0) h r.days,
        get-laid (cell Month) rs rows.months i d (pos 0) h r.months,
        get-laid (cell Year) rs rows.years i d (pos 0) h r.years,
        get-laid code_of rs rows.codes i d 0 h r.codes,
      )

  past : {B : Type 0} (f : Result Reading Refusal → B) (row : List B) (i : ℕ) (e : B) → length rs ≤ i → get_or (sets row 0 (map f rs)) i e ≡ get_or row i e
  past f row i e h = get-past row 0 (map f rs) i e (omega (arith, length-map rs f))

  cells-past : (i : ℕ) → length rs ≤ i → cells_at i (laid rs rows) ≡ cells_at i rows
  cells-past i h =
      rw (
        past (cell DayOfMonth) rows.days i (pos 0) h,
        past (cell Month) rows.months i (pos 0) h,
        past (cell Year) rows.years i (pos 0) h,
        past code_of rows.codes i 0 h,
      )

module _ (choices : Choices) (book : Book) (p s : List ℕ) (current : ℤ) (rows : Rows) (fine : list_check choices.edition p s current rows ≡ Ok tt) where
  pub list-room : Room (length (lines s)) rows
  unfolding list_check
  list-room =
      let a = else-fine (pattern_check p) (current_year_check choices.edition current else refuse_unless (hold (length (lines s)) rows) ShortRow) fine in
      let b = else-fine (current_year_check choices.edition current) (refuse_unless (hold (length (lines s)) rows) ShortRow) a.1 in
      room (length (lines s)) rows (fine-unless _ _ b.1)

  read_at : (i : ℕ) → i < length (lines s) → get_or (read_lines choices book p s current) i (read choices book p [] current) ≡ read choices book p (get_or (lines s) i []) current
  unfolding read_lines
  read_at i h = get-map (λ line. read choices book p line current) (lines s) i [] _ h

  many : length (read_lines choices book p s current) ≡ length (lines s)
  unfolding read_lines
  many = length-map (lines s) _

  pub line-cells : (i : ℕ) → i < length (lines s)
      → cells_at i (list_rows choices book p s current rows) ≡ cells_of (read choices book p (get_or (lines s) i []) current)
  unfolding list_rows
  line-cells i h =
      let l : i < length (read_lines choices book p s current) = omega (arith, many) in
      rw fine (cells-laid (read_lines choices book p s current) rows i (read choices book p [] current) l (rw many list-room) ∙ ap cells_of (read_at i h))

  pub cells_stay : (i : ℕ) → length (lines s) ≤ i → cells_at i (list_rows choices book p s current rows) ≡ cells_at i rows
  unfolding list_rows
  cells_stay i h = rw fine (cells-past (read_lines choices book p s current) rows i (omega (arith, many)))

-- whatever the texts and the rows are
pub line-alone : (choices : Choices) (book : Book) (p : List ℕ) (current : ℤ) (s t : List ℕ) (rows rows' : Rows)
    → list_check choices.edition p s current rows ≡ Ok tt → list_check choices.edition p t current rows' ≡ Ok tt
    → (i : ℕ) → i < length (lines s) → i < length (lines t) → get_or (lines s) i [] ≡ get_or (lines t) i []
    → cells_at i (list_rows choices book p s current rows) ≡ cells_at i (list_rows choices book p t current rows')
line-alone choices book p current s t rows rows' fine fine' i h k e =
    line-cells choices book p s current rows fine i h
    ∙ ap (λ (line : List ℕ). cells_of (read choices book p line current)) e
    ∙ sym (line-cells choices book p t current rows' fine' i k)

-- a step by what it gives
step_by : (give : ℕ → Option LineRead) (steps at : ℕ) (l : LineRead) → give at ≡ Some l
    → stepped give (suc steps) at ≡ l.reading ∷ stepped give steps l.next
unfolding stepped
step_by give steps at l e = rw (stepped, e) refl

no-step : (give : ℕ → Option LineRead) (steps at : ℕ) → give at ≡ None → stepped give (suc steps) at ≡ []
unfolding stepped
no-step give steps at e = rw (stepped, e) refl

-- The line reader gives the line at a place, as it is read by itself, and none at the end; so its steps give the lines in order.

module _ (choices : Choices) (book : Book) (p s : List ℕ) (current : ℤ) where
  pub line_read : (at : ℕ) → at < length s
      → read_line choices book p s at current ≡ Some (line_at (length s) at (take (line_end s at - at) (drop at s)) (read choices book p (take (line_end s at - at) (drop at s)) current))
  unfolding read_line
  line_read at h = rw (line-there s at h)

  pub no-line-read : (at : ℕ) → length s ≤ at → read_line choices book p s at current ≡ None
  unfolding read_line
  no-line-read at h = rw (line-none s at h)

  line-long : (at : ℕ) → at ≤ length s → at + length (take (line_end s at - at) (drop at s)) ≡ line_end s at
  line-long at h = omega (arith, length-take (line_end s at - at) (drop at s), line-inside (drop at s))

  steps-from : (steps at : ℕ) → length s ≤ at + steps → stepped (λ i. read_line choices book p s i current) steps at ≡ map (λ line. read choices book p line current) (lines (drop at s))
  unfolding stepped
  steps-from zero at h = rw (line-none s at (omega arith))
  steps-from (suc steps) at h =
      by-test (ltb at (length s))
      (λ e.
      let inside : at < length s = ltb-true at (length s) e in
      let on = steps-from steps (next_line s (line_end s at)) (omega arith) in
      let line = take (line_end s at - at) (drop at s) in
      step_by (λ i. read_line choices book p s i current) steps at (line_at (length s) at line (read choices book p line current)) (line_read at inside)
      ∙ rw (line-there s at inside, line-long at (omega arith), on))
      (λ e.
      let past : length s ≤ at = ltb-false at (length s) e in
      no-step (λ i. read_line choices book p s i current) steps at (no-line-read at past) ∙ rw (line-none s at past))

  pub steps-are-lines : stepped (λ at. read_line choices book p s at current) (length s) 0 ≡ read_lines choices book p s current
  unfolding read_lines
  steps-are-lines = steps-from (length s) 0 (omega arith)
