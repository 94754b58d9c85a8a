-- Steps read one after the other, and what they give kept in a row.
use Rattle.std.specs.Prelude.{Ok, Option, None}
use mathlib.Core.List.{List, [], ◌∷◌, ◌++◌, map, append_assoc}
use mathlib.Core.Path.{◌≡◌, refl, ap, ◌∙◌}
use Prim.Native.Nat.{ℕ, zero, suc, ◌+◌, ◌*◌, ◌^◌, ◌%◌, ◌≤◌, ◌<◌}
use native.Mathlib.Nat.{add-zero}
use native.Mathlib.Omega.{arith}
use lib.Bits.{bit_or}
use lib.IntN.{ℤ, pos}
use lib.ListN.{length, set, drop, length-append, length-map, length-set}
use lib.Seq.{set-append_left, drop-set-lt}
use Rattle.meaning.specs.Names.{Book}
use Rattle.meaning.specs.Readers.{got}
use Rattle.meaning.specs.Reading.{value, read_step}
use Rattle.meaning.specs.Whole.{Gave, unit_number, last_of, reading_of}
use Rattle.meaning.specs.Writing.{Step}
use Rattle.meaning.specs.declared.Carried.{Carried}
use Rattle.meaning.specs.declared.Choices.{Choices}
use Rattle.meaning.specs.declared.ParseUnit.{ParseUnit}
use Rattle.meaning.specs.declared.Reading.{Reading}
use Rattle.parse.proofs.rule.Within.{within_step}
use Rattle.parse.proofs.steps.Within.{part_stays}
use Rattle.parse.specs.Steps.{part_at}
use Rattle.parse.specs.declared.cursor.Read.{Read}
use Rattle.std.specs.Prelude.{Ok}
use Rattle.reader.proofs.record.Units.{Holds, holds-value, unit-below}
use Rattle.reader.proofs.walk.Walks.{walk-on}
use Rattle.word_reader.specs.Quick.{row_of, mask_of, gave_one, Moves, Kept}

module _ (choices : Choices) (book : Book) (current : ℕ) (text : List ℕ) where
  -- no step, one, and some behind others
  pub moves-none : (at : ℕ) → at ≤ length text → Moves choices book current [] text at at []
  moves-none at h = record { inside = h; goes = λ i rest gave. rw add-zero }

  pub moves-part : (at : ℕ) (step : Step) {read : Read (Option Carried)} → at ≤ length text
      → part_at at (read_step choices book current step (drop at text)) ≡ Ok read
      → Moves choices book current (step ∷ []) text at read.next.at (gave_one read.value at read.next.at)
  moves-part at step h e =
      record {
        inside = part_stays at text (read_step choices book current step (drop at text)) h (within_step choices book current step (drop at text)) e;
        goes = λ i rest gave. walk-on choices book current i text gave at step rest ∙ rw e;
      }

  pub moves-one : (at : ℕ) (step : Step) {n : ℕ} {c : Option Carried} → at ≤ length text → read_step choices book current step (drop at text) ≡ got n c
      → Moves choices book current (step ∷ []) text at (at + n) (gave_one c at (at + n))
  moves-one at step {n} {c} h e = moves-part at step {read = record { value = c; next = record { at = at + n } }} h (rw e)

  pub moves-to : (at next : ℕ) (step : Step) {n : ℕ} {c : Option Carried} → at ≤ length text → next ≡ at + n → read_step choices book current step (drop at text) ≡ got n c
      → Moves choices book current (step ∷ []) text at next (gave_one c at next)
  moves-to at next step h e r = rw e (moves-one at step h r)

  pub moves-then : {ss tt : List Step} {at mid next : ℕ} {gs hs : List Gave} → Moves choices book current ss text at mid gs
      → Moves choices book current tt text mid next hs → Moves choices book current (ss ++ tt) text at next (hs ++ gs)
  moves-then {ss} {tt} {at} {mid} {next} {gs} {hs} m n =
      record {
        inside = n.inside;
        goes = λ i rest gave.
            let count : i + length (ss ++ tt) ≡ i + length ss + length tt = omega (arith, length-append ss tt) in
            rw (append_assoc ss tt rest, append_assoc hs gs gave, count) (m.goes i (tt ++ rest) gave ∙ n.goes (i + length ss) rest (gs ++ gave));
      }

-- a row, kept as it is, with one value more, and with what some give behind others

pub kept-none : {row : List ℤ} {mask : ℕ} → Kept [] row row mask mask
kept-none = record { keeps = λ gave rest lies is. (lies, is) }

pub kept-nothing : {row : List ℤ} {mask from to : ℕ} → Kept (gave_one None from to) row row mask mask
unfolding row_of mask_of last_of
kept-nothing = record { keeps = λ gave rest lies is. (lies, is) }

pub kept_then : {gs hs : List Gave} {old mid new : List ℤ} {mask more most : ℕ} → Kept gs old mid mask more → Kept hs mid new more most
    → Kept (hs ++ gs) old new mask most
kept_then {gs} {hs} k l =
    record {
      keeps = λ gave rest lies is.
          let first = k.keeps gave rest lies is in
          rw (append_assoc hs gs gave) (l.keeps (gs ++ gave) rest first.0 first.1);
    }

-- one entry behind others, and one of a row of places
set-behind : {A : Type 0} (xs ys : List A) (n i : ℕ) (a : A) → length xs ≡ n → set (xs ++ ys) (n + i) a ≡ xs ++ set ys i a
set-behind [] ys n i a e = let z : n + i ≡ i = omega (arith, e) in rw z
set-behind (x ∷ xs) ys n i a e =
    let m = length xs in
    let z : n + i ≡ suc (m + i) = omega (arith, e) in
    rw (z, set-behind xs ys m i a refl)

set-place : (l : List ℕ) (i n : ℕ) → set (map pos l) i (pos n) ≡ map pos (set l i n)
set-place [] i n = refl
set-place (a ∷ l) zero n = refl
set-place (a ∷ l) (suc i) n = rw (set-place l i n)

-- the three entries of a value: with the counts in front of the values
set-parts : (front new starts ends rest : List ℤ) (u : ℕ) (x y z : ℤ) → set front (3 + u) x ≡ new → length front ≡ 18 → length new ≡ 18 → length starts ≡ 15 → length ends ≡ 15 → u < 15
    → set (set (set (front ++ starts ++ ends ++ rest) (3 + u) x) (18 + u) y) (33 + u) z ≡ new ++ set starts u y ++ set ends u z ++ rest
set-parts front new starts ends rest u x y z e f n s l small =
    let ss = set starts u y in
    let long = length-append front starts in
    let longer = length-append (front ++ starts) ends in
    let new-long = length-append new starts in
    let new-longer = length-append (new ++ starts) ends in
    let all : length (new ++ ss) ≡ 33 = omega (arith, length-append new ss, length-set starts u y) in
    rw (
      set-append_left (front ++ starts ++ ends) rest (3 + u) x (omega arith),
      set-append_left (front ++ starts) ends (3 + u) x (omega arith),
      set-append_left front starts (3 + u) x (omega arith),
      e,
      set-append_left (new ++ starts ++ ends) rest (18 + u) y (omega arith),
      set-append_left (new ++ starts) ends (18 + u) y (omega arith),
      set-behind new starts 18 u y n,
      set-append_left (new ++ ss ++ ends) rest (33 + u) z (omega (arith, length-append (new ++ ss) ends)),
      set-behind (new ++ ss) ends 33 u z all,
    )

-- a row of counts, values and places
abbrev row_by : List ℤ → List ℕ → List ℕ → List ℤ → List ℤ
row_by values starts ends rest = (pos 0 ∷ pos 0 ∷ pos 0 ∷ values ++ map pos starts ++ map pos ends) ++ rest

set-row : (values : List ℤ) (starts ends : List ℕ) (rest : List ℤ) (u : ℕ) (z : ℤ) (from to : ℕ) → length values ≡ 15 → length starts ≡ 15 → length ends ≡ 15 → u < 15
    → set (set (set (row_by values starts ends rest) (3 + u) z) (18 + u) (pos from)) (33 + u) (pos to)
    ≡ row_by (set values u z) (set starts u from) (set ends u to) rest
set-row values starts ends rest u z from to h k l small =
    let front = pos 0 ∷ pos 0 ∷ pos 0 ∷ values in
    let new = pos 0 ∷ pos 0 ∷ pos 0 ∷ set values u z in
    let three : 3 + u ≡ suc (suc (suc u)) = omega arith in
    let first : set front (3 + u) z ≡ new = rw three in
    let fits : length new ≡ 18 = omega (arith, length-set values u z) in
    let s-long : length (map pos starts) ≡ 15 = length-map starts pos ∙ k in
    let e-long : length (map pos ends) ≡ 15 = length-map ends pos ∙ l in
    set-parts front new (map pos starts) (map pos ends) rest u z (pos from) (pos to) first (omega arith) fits s-long e-long small
    ∙ ap (λ (p : List ℤ). new ++ p ++ set (map pos ends) u (pos to) ++ rest) (set-place starts u from)
    ∙ ap (λ (p : List ℤ). new ++ map pos (set starts u from) ++ p ++ rest) (set-place ends u to)

module _ (u : ParseUnit) (z : ℤ) (from to : ℕ) {old : List ℤ} {mask : ℕ} (gave : List Gave) (rest : List ℤ) (lies : old ≡ row_of gave ++ rest) (is : mask ≡ mask_of gave) where
  abbrev k : ℕ
  k = unit_number u

  abbrev r : Reading
  r = reading_of 0 gave

  abbrev s : Reading
  s = reading_of 0 (gave_one (value u z) from to ++ gave)

  held : Holds gave r.values r.starts r.ends mask
  unfolding mask_of
  held = record { values-are = refl; starts-are = refl; ends-are = refl; mask_is = is }

  new_row : set (set (set old (3 + k) z) (18 + k) (pos from)) (33 + k) (pos to) ≡ row_of (gave_one (value u z) from to ++ gave) ++ rest
  unfolding row_of
  new_row =
      let new = holds-value held from to u z in
      rw lies (set-row r.values r.starts r.ends rest k z from to refl refl refl (unit-below u))
      ∙ ap (λ (v : List ℤ). row_by v (set r.starts k from) (set r.ends k to) rest) new.values-are
      ∙ ap (λ (l : List ℕ). row_by s.values l (set r.ends k to) rest) new.starts-are
      ∙ ap (λ (l : List ℕ). row_by s.values s.starts l rest) new.ends-are

  new-mask : bit_or mask (1 * 2 ^ k % 65536) ≡ mask_of (gave_one (value u z) from to ++ gave)
  unfolding mask_of
  new-mask = (holds-value held from to u z).mask_is

pub kept-value : (u : ParseUnit) (z : ℤ) (from to : ℕ) {old : List ℤ} {mask : ℕ}
    → Kept (gave_one (value u z) from to) old
    (set (set (set old (3 + unit_number u) z) (18 + unit_number u) (pos from)) (33 + unit_number u) (pos to)) mask (bit_or mask (1 * 2 ^ unit_number u % 65536))
kept-value u z from to =
    record { keeps = λ gave rest lies is. (new_row u z from to gave rest lies is, new-mask u z from to gave rest lies is) }

pub kept-beyond : (old : List ℤ) (u : ParseUnit) (z : ℤ) (from to : ℕ)
    → drop 48 (set (set (set old (3 + unit_number u) z) (18 + unit_number u) (pos from)) (33 + unit_number u) (pos to)) ≡ drop 48 old
kept-beyond old u z from to =
    let small = unit-below u in
    rw (
      drop-set-lt 48 (set (set old (3 + unit_number u) z) (18 + unit_number u) (pos from)) (33 + unit_number u) (pos to) (omega arith),
      drop-set-lt 48 (set old (3 + unit_number u) z) (18 + unit_number u) (pos from) (omega arith),
      drop-set-lt 48 old (3 + unit_number u) z (omega arith),
    )
