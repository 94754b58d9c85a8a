-- What a part reads by any choices, from what it reads where nothing is compared: the same, but that a strict reading stops at the
-- first byte that differs from what the part stands for.
use mathlib.Core.Bool.{Bool, true, false}
use mathlib.Core.List.{List, [], ◌∷◌}
use Rattle.std.specs.Prelude.{Some, None, Result, Ok, Err, Option}
use mathlib.Core.Option as maths
use mathlib.Core.Option.{none, some}
use mathlib.Core.Path.{◌≡◌, refl, sym, ap, ◌∙◌}
use Prim.Native.Nat.{ℕ, suc, ◌+◌, ◌-◌, ◌≤◌}
use native.Mathlib.Nat.{add-zero, add-suc}
use native.Mathlib.Omega.{arith}
use lib.Dec.{eqb, ltb}
use lib.IntN.{ℤ}
use lib.ListN.{length, drop, length-drop}
use borrow.Author.Tests.{ltb-true, ltb-false}
use Rattle.laws.proofs.Readers.{skip-stops, skip_goes_on, same_byte, other_byte, same-stops, same-compares}
use Rattle.laws.proofs.Tests.{by-test}
use Rattle.meaning.specs.Bytes.{when}
use Rattle.meaning.specs.Names.{Book}
use Rattle.meaning.specs.Readers.{go_on, done, first_differing, same_by}
use Rattle.meaning.specs.Reading.{value, passed, literal_read, read_step}
use Rattle.meaning.specs.Writing.{Step, literal, field}
use Rattle.meaning.specs.declared.Carried.{Carried}
use Rattle.meaning.specs.declared.Choices.{Choices}
use Rattle.meaning.specs.declared.Edition.{Edition}
use Rattle.meaning.specs.declared.ParseUnit.{ParseUnit}
use Rattle.meaning.specs.declared.Rule.{Rule}
use Rattle.meaning.specs.declared.Trouble.TheVariants.{TooFew, LiteralDiffers}
use Rattle.parse.specs.Literals.{Ended, compared_by, compared}
use Rattle.parse.specs.Steps.{part_at, plain_read}
use Rattle.parse.specs.declared.cursor.Read.{Read}
use Rattle.parse.specs.declared.cursor.Stop.{Stop}
use Rattle.parse.proofs.cursor.Moves.{stop, same_ok}

abbrev pub part_by : Option ℕ → Read (Option Carried) → Result (Read (Option Carried)) Stop
part_by None read = Ok read
part_by (Some place) read = Err (stop LiteralDiffers place)

abbrev pub strict_by : Bool → Step → List ℕ → Result (Read (Option Carried)) Stop → Result (Read (Option Carried)) Stop
strict_by strict step text (Err stopped') = Err stopped'
strict_by strict step text (Ok read) = part_by (when strict (compared step text read.next.at) None) read

pub same-either : (strict : Bool) → ◌≡◌ {A = Option ℕ} (when strict None None) None
same-either true = refl
same-either false = refl

-- the first byte that differs, at its place in the whole text
abbrev later : ℕ → maths.Option ℕ → maths.Option ℕ
later at none = none
later at (some i) = some (at + i)

differing-later : (at i : ℕ) (w s : List ℕ) → first_differing (at + i) w s ≡ later at (first_differing i w s)
unfolding first_differing
differing-later at i [] s = refl
differing-later at i (a ∷ w) [] = refl
differing-later at i (a ∷ w) (b ∷ s) =
    by-test (eqb a b)
    (λ e. rw (same_byte (at + i) a w b s e, same_byte i a w b s e) (rw add-suc at (differing-later at (suc i) w s)))
    (λ e. rw (other_byte (at + i) a w b s e, other_byte i a w b s e))

by_difference : (at k : ℕ) (s : List ℕ) (d : maths.Option ℕ)
    → part_at at (go_on (same_by k d) (λ _. done None) s) ≡ part_by (compared_by (later at d)) (record { value = None; next = record { at = at + k } })
by_difference at k s none = rw add-zero
by_difference at k s (some i) = refl

module _ (text : List ℕ) (at : ℕ) where
  abbrev rest : List ℕ
  rest = drop at text

  -- so many bytes passed over, where there are too few and where they are there
  passed-stops : (k : ℕ) → ltb (length rest) k ≡ true → part_at at (passed k rest) ≡ Err (stop TooFew at)
  passed-stops k e = rw (skip-stops k rest (ltb-true (length rest) k e), add-zero)

  passed_on : (k : ℕ) → ltb (length rest) k ≡ false → part_at at (passed k rest) ≡ Ok (record { value = None; next = record { at = at + k } })
  passed_on k e = rw (skip_goes_on k rest (ltb-false (length rest) k e), add-zero)

  literal-read : (strict : Bool) (w : List ℕ) (lost : Bool)
      → part_at at (literal_read strict w rest) ≡ strict_by strict (literal w lost) text (part_at at (passed (length w) rest))
  literal-read true w lost =
      by-test (ltb (length rest) (length w))
      (λ e. rw (passed-stops (length w) e, same-stops w rest (ltb-true (length rest) (length w) e), add-zero))
      (λ e.
      let start : at + length w - length w ≡ at = omega arith in
      let shifted : first_differing at w rest ≡ later at (first_differing 0 w rest) = rw add-zero at (differing-later at 0 w rest) in
      rw (passed_on (length w) e, start, shifted, same-compares w rest (ltb-false (length rest) (length w) e))
      (by_difference at (length w) rest (first_differing 0 w rest)))
  literal-read false w lost =
      by-test (ltb (length rest) (length w)) (λ e. rw (passed-stops (length w) e)) (λ e. rw (passed_on (length w) e))

  field-read : (strict : Bool) (rule : Rule) (g : Result (Read (Option Carried)) Stop) → g ≡ strict_by strict (field rule) text g
  field-read strict rule (Err stopped') = refl
  field-read strict rule (Ok read) = rw (same-either strict)

  pub compared-read : (choices : Choices) (book : Book) (current : ℕ) (step : Step)
      → part_at at (read_step choices book current step rest) ≡ strict_by choices.strict step text (part_at at (plain_read choices.edition book current step rest))
  unfolding read_step
  compared-read choices book current (literal w lost) = literal-read choices.strict w lost
  compared-read choices book current (field rule) = field-read choices.strict rule (part_at at (plain_read choices.edition book current (field rule) rest))

  -- a literal that was passed over carries nothing, and ended behind its bytes
  passed-ended : (k : ℕ) {read : Read (Option Carried)} → part_at at (passed k rest) ≡ Ok read
      → (None ≡ read.value) × (at + k ≡ read.next.at) × (k ≤ length rest)
  passed-ended k e =
      by-test (ltb (length rest) k)
      (λ t. let none = sym (passed-stops k t) ∙ e in absurd (let z : ◌≡◌ {A = ℕ} 0 1 = cc in omega arith))
      (λ t. let on = same_ok (sym (passed_on k t) ∙ e) in (ap (λ (r : Read (Option Carried)). r.value) on, ap (λ (r : Read (Option Carried)). r.next.at) on, ltb-false (length rest) k t))

  pub value_same : (edition : Edition) (book : Book) (current : ℕ) (step : Step) {read : Read (Option Carried)} {u : ParseUnit} {z : ℤ}
      → part_at at (plain_read edition book current step rest) ≡ Ok read → read.value ≡ value u z → compared step text read.next.at ≡ None
  unfolding read_step
  value_same edition book current (literal w lost) e v =
      let none = (passed-ended (length w) e).0 in absurd (let z : ◌≡◌ {A = ℕ} 0 1 = cc in omega arith)
  value_same edition book current (field rule) e v = refl

  pub ended : (edition : Edition) (book : Book) (current : ℕ) (step : Step) {read : Read (Option Carried)} → part_at at (plain_read edition book current step rest) ≡ Ok read
      → at ≤ length text → Ended step (length text) read.next.at
  unfolding read_step
  ended edition book current (literal w lost) e h =
      let past = passed-ended (length w) e in (omega (arith, past.1), omega (arith, past.1, past.2, length-drop at text))
  ended edition book current (field rule) e h = tt
