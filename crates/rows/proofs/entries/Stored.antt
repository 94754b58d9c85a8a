-- What a call gave, as it is stored; and the details of a refusal, their sizes and how they are laid.
use Rattle.std.specs.Prelude.{Some, None}
use mathlib.Core.List.{List, [], ◌∷◌, ◌++◌, append_assoc}
use mathlib.Core.Path.{◌≡◌, sym, ◌∙◌}
use Prim.Native.Nat.{ℕ, zero, suc, ◌+◌, ◌-◌, ◌≤◌, ◌<◌, ◌^◌}
use native.Mathlib.Omega.{arith}
use lib.IntN.{ℤ, pos, neg_ℤ, nat_abs}
use lib.ListN.{length, take, drop, replicate}
use lib.Seq.{sets, sets-eq, drop-drop}
use lib.Signed.{mag}
use mir.Syntax.{w64}
use mir.Val.{SFits, to_z, of_z}
use mir.ValLaws.{to_z-of_z}
use Rattle.meaning.specs.Answers.{details, refused}
use Rattle.meaning.specs.declared.Kind.{Kind}
use Rattle.meaning.specs.declared.Kind.TheVariants.{Run, Quotes, Quoted, Open}
use Rattle.meaning.specs.declared.Refusal.{Refusal}
use Rattle.refusals.proofs.Integers.{details_of}
use Rattle.refusals.specs.Told.{detail_of}
use Rattle.refusals.specs.declared.Detail.{Detail}
use Rattle.refusals.specs.declared.Told.{Told}
use Rattle.rows.specs.Fits.{WhyFits, NumberFits}
use Rattle.rows.specs.Rows.{in_row, laid, kind_number}

-- what a call gave, as it is stored
pub stored : (z : ℤ) → mag z < 2 ^ 63 → to_z w64 (of_z w64 z) ≡ z
stored z small = to_z-of_z w64 z (record { sfits = small })

pub negated_fits : (n : ℕ) → NumberFits n → SFits w64 (neg_ℤ (pos n))
negated_fits zero h = record { sfits = omega arith }
negated_fits (suc n) h = record { sfits = omega arith }

module _ (told : Told) (why : Refusal) (tells : details_of told ≡ details why) where
  pub first_fits : WhyFits why → NumberFits (nat_abs (detail_of told.first))
  first_fits fits = (rw (← tells) at fits).0

  pub second_fits : WhyFits why → (second : Detail) → told.second ≡ Some second → NumberFits (nat_abs (detail_of second))
  second_fits fits second two = (rw two at (rw (← tells) at fits)).1.0

  pub two-details : (entries : ℕ) (old : List ℤ) (second : Detail) → told.second ≡ Some second
      → sets (sets old 0 (detail_of told.first ∷ detail_of second ∷ [])) 2 (replicate (entries - 2) (pos 0))
      ≡ laid (in_row entries (refused why)).values old
  two-details entries old second two = rw (← tells, two)

  pub one-detail : (entries : ℕ) (old : List ℤ) → told.second ≡ None
      → sets (sets old 0 (detail_of told.first ∷ [])) 1 (replicate (entries - 1) (pos 0))
      ≡ laid (in_row entries (refused why)).values old
  one-detail entries old one = rw (← tells, one)

pub kind_fits : (kind : Kind) → NumberFits (kind_number kind)
kind_fits Run = omega arith
kind_fits Quotes = omega arith
kind_fits Quoted = omega arith
kind_fits Open = omega arith

-- numbers in the place of as many are numbers laid over them
pub over : {A : Type 0} (a k : ℕ) (xs ys : List A) → k ≡ length ys → a + length ys ≤ length xs → take a xs ++ (ys ++ drop k (drop a xs)) ≡ sets xs a ys
over a k xs ys e h = rw (e, drop-drop (length ys) a xs) (sym (append_assoc (take a xs) ys (drop (a + length ys) xs)) ∙ sym (sets-eq ys xs a h))
