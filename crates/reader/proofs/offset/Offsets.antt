-- Laws of parse_offset: what it answers from two numbers taken, and test by test, and seconds behind UTC.
use Rattle.std.specs.Prelude.{Result, Ok, Err}
use mathlib.Core.Bool.{Bool, true, false}
use mathlib.Core.List.{List, [], ◌∷◌}
use mathlib.Core.Path.{◌≡◌, refl, ◌∙◌}
use Prim.Native.Char.{code}
use Prim.Native.Nat.{ℕ, zero, suc, ◌≤◌, ◌<◌}
use native.Mathlib.Omega.{arith}
use lib.Dec.{eqb}
use lib.IntN.{pos, neg_ℤ, ◌-ℤ◌, +ℤ_idl}
use lib.ListN.{length, get_or}
use borrow.Author.Tests.{eq-eqb, ne_eqb}
use mir.Facts.{to_z_pos}
use mir.Syntax.{w32}
use mir.Val.{SFits, to_z, of_z}
use mir.ValLaws.{to_z-of_z}
use Rattle.meaning.specs.Answers.{text_check}
use Rattle.meaning.specs.Bytes.{plus}
use Rattle.meaning.specs.Numerals.{Signed}
use Rattle.meaning.specs.Readers.{Got, got, stopped}
use Rattle.meaning.specs.Whole.{seconds, hour_and_minute, two_at, parse_offset}
use Rattle.meaning.specs.Results.{Offset}
use Rattle.meaning.specs.declared.Refusal.{Refusal}
use Rattle.meaning.specs.declared.Refusal.TheVariants.{InPart, OffsetLength}
use Rattle.parse.specs.Steps.{taken_at}
use Rattle.parse.specs.Steps.{Number}
use Rattle.parse.specs.declared.cursor.Read.{Read}
use Rattle.parse.specs.declared.cursor.Stop.{Stop}

-- what the hour and the minute answer, from what the cursor took at 1 and at 4

abbrev pub offset_taken : Bool → Result (Read Number) Stop → Result (Read Number) Stop → Offset
offset_taken ahead (Err stop) minute = Err (InPart stop.trouble 0 stop.place)
offset_taken ahead (Ok hour) (Err stop) = Err (InPart stop.trouble 0 stop.place)
offset_taken ahead (Ok hour) (Ok minute) = seconds ahead hour.value.size minute.value.size

offset-taken : (ahead : Bool) (hour minute : Got Signed)
    → hour_and_minute ahead hour minute ≡ offset_taken ahead (taken_at 1 hour) (taken_at 4 minute)
offset-taken ahead (stopped why i) minute = refl
offset-taken ahead (got n hour) (stopped why i) = refl
offset-taken ahead (got n hour) (got m minute) = refl

pub six-taken : (s : List ℕ)
    → hour_and_minute (eqb (get_or s 0 0) plus) (two_at 1 s) (two_at 4 s)
    ≡ offset_taken (eqb (get_or s 0 0) plus) (taken_at 1 (two_at 1 s)) (taken_at 4 (two_at 4 s))
six-taken s = offset-taken (eqb (get_or s 0 0) plus) (two_at 1 s) (two_at 4 s)

-- the answer, by what the checks and the first byte say

pub refused-offset : (s : List ℕ) (why : Refusal) → text_check s ≡ Err why → parse_offset s ≡ Err why
unfolding parse_offset
refused-offset s why e = rw e

pub no-first : (s : List ℕ) → length s ≤ 0 → eqb (get_or s 0 0) (code "Z") ≡ false
no-first [] h = refl
no-first (b ∷ s) h = absurd (omega arith)

module _ (s : List ℕ) (fine : text_check s ≡ Ok tt) where
  pub z-offset : eqb (get_or s 0 0) (code "Z") ≡ true → parse_offset s ≡ Ok (pos 0)
  unfolding parse_offset
  z-offset z = rw (fine, z)

  pub other_length : eqb (get_or s 0 0) (code "Z") ≡ false → (length s ≡ 6 → ⊥) → parse_offset s ≡ Err (OffsetLength (length s))
  unfolding parse_offset
  other_length z h = rw (fine, z, ne_eqb (length s) 6 h)

  pub six-offset : eqb (get_or s 0 0) (code "Z") ≡ false → length s ≡ 6 → parse_offset s ≡ hour_and_minute (eqb (get_or s 0 0) plus) (two_at 1 s) (two_at 4 s)
  unfolding parse_offset
  six-offset z h = rw (fine, z, eq-eqb (length s) 6 h)

-- seconds behind UTC, as the code makes them

pub behind-fits : (n : ℕ) → n < 86400 → SFits w32 (pos 0 -ℤ to_z w32 n)
behind-fits zero h = rw (to_z_pos w32 {n = 0} (omega arith)) (record { sfits = omega arith })
behind-fits (suc n) h = rw (to_z_pos w32 {n = suc n} (omega arith), +ℤ_idl) (record { sfits = omega arith })

pub behind-is : (n : ℕ) → n < 86400 → to_z w32 (of_z w32 (pos 0 -ℤ to_z w32 n)) ≡ neg_ℤ (pos n)
behind-is n h =
    to_z-of_z w32 (pos 0 -ℤ to_z w32 n) (behind-fits n h) ∙ rw (to_z_pos w32 {n = n} (omega arith)) (+ℤ_idl (neg_ℤ (pos n)))
