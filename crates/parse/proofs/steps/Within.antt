-- No step takes more than there is, and none stops behind it; nor do steps one after the other. So a cursor that moves on stays in its text.
use Rattle.std.specs.Prelude.{Ok, Option}
use mathlib.Core.List.{List}
use mathlib.Core.Option as maths
use mathlib.Core.Option.{none, some}
use mathlib.Core.Path.{◌≡◌, ap}
use Rattle.parse.proofs.cursor.Moves.{same_ok}
use Prim.Native.Nat.{ℕ, ◌+◌, ◌≤◌}
use native.Mathlib.Omega.{arith}
use borrow.Author.Tests.{ltb-false}
use lib.Dec.{ltb}
use lib.ListN.{length, take, drop, length-drop}
use Rattle.laws.proofs.Tests.{when-is}
use Rattle.meaning.specs.Numerals.{Signed, plus_first, number_of}
use Rattle.meaning.specs.Readers.{Got, got, stopped, Reader, behind, go_on, skip, taken_number, take_number, take_count}
use Rattle.meaning.specs.declared.Carried.{Carried}
use Rattle.meaning.specs.declared.Numeral.{Numeral}
use Rattle.parse.specs.Steps.{read_at, skipped_at, part_at}
use Rattle.parse.specs.declared.cursor.Cursor.{Cursor}
use Rattle.parse.specs.declared.cursor.Read.{Read}

abbrev pub Within : {A : Type 0} → ℕ → Got A → Type 0
Within room (got n a) = n ≤ room
Within room (stopped why i) = i ≤ room

-- one reader after the other

within-behind : {A : Type 0} (n : ℕ) (s : List ℕ) (g : Got A) → n ≤ length s → Within (length (drop n s)) g → Within (length s) (behind n g)
within-behind n s (got m a) h k = omega (arith, length-drop n s)
within-behind n s (stopped why i) h k = omega (arith, length-drop n s)

pub within_on : {A B : Type 0} (g : Got A) (next : A → Reader B) (s : List ℕ) → Within (length s) g
    → ((a : A) (t : List ℕ) → Within (length t) (next a t)) → Within (length s) (go_on g next s)
within_on (got n a) next s h k = within-behind n s (next a (drop n s)) h (k a (drop n s))
within_on (stopped why i) next s h k = h

-- the steps

pub within-skip : (k : ℕ) (s : List ℕ) → Within (length s) (skip k s)
unfolding skip
within-skip k s = when-is (λ (g : Got Unit). Within (length s) g) (ltb (length s) k) (λ _. omega arith) (λ e. ltb-false (length s) k e)

within-taken : (k : ℕ) (n : maths.Option Signed) (room : ℕ) → k ≤ room → Within room (taken_number k n)
within-taken k none room h = omega arith
within-taken k (some n) room h = h

pub within-take : (kind : Numeral) (k : ℕ) (s : List ℕ) → Within (length s) (take_number kind k s)
unfolding take_number
within-take kind k s =
    when-is (λ (g : Got Signed). Within (length s) g) (ltb (length s) k) (λ _. omega arith)
    (λ e. when-is (λ (g : Got Signed). Within (length s) g) (plus_first (take k s)) (λ _. omega arith)
    (λ _. within-taken k (number_of kind (take k s)) (length s) (ltb-false (length s) k e)))

pub within_count : (k : ℕ) (s : List ℕ) → Within (length s) (take_count k s)
within_count k s = within_on (take_number _ k s) _ s (within-take _ k s) (λ n t. omega arith)

-- the moved cursor

module _ (at : ℕ) (text : List ℕ) where
  pub read_stays : {A : Type 0} (g : Got A) {read : Read A} → at ≤ length text → Within (length (drop at text)) g
      → read_at at g ≡ Ok read → read.next.at ≤ length text
  read_stays {A} (got n c) {read = read} h k e = let d : at + n ≡ read.next.at = ap (λ (r : Read A). r.next.at) (same_ok e) in omega (arith, length-drop at text)
  read_stays (stopped why i) h k e = absurd (let z : ◌≡◌ {A = ℕ} 0 1 = cc in omega arith)

  pub part_stays : (g : Got (Option Carried)) {read : Read (Option Carried)} → at ≤ length text → Within (length (drop at text)) g
      → part_at at g ≡ Ok read → read.next.at ≤ length text
  part_stays = read_stays

  pub skipped-stays : (g : Got Unit) {next : Cursor} → at ≤ length text → Within (length (drop at text)) g
      → skipped_at at g ≡ Ok next → next.at ≤ length text
  skipped-stays (got n u) {next = next} h k e = let d : at + n ≡ next.at = cc in omega (arith, length-drop at text)
  skipped-stays (stopped why i) h k e = absurd (let z : ◌≡◌ {A = ℕ} 0 1 = cc in omega arith)
