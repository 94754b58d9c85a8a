-- Laws of what the parts of a reading gave, the newest first: what holds of every entry holds of the last one of a unit, which is the
-- one whose value and bytes the reading has; and where entries stand in order, those of two units do not overlap.
use Rattle.std.specs.Prelude.{Option, Some, None}
use mathlib.Core.Bool.{Bool, true, false}
use mathlib.Core.List.{List, [], ◌∷◌}
use mathlib.Core.Logic.{◌⊎◌, inl, inr}
use mathlib.Core.Path.{◌≡◌, refl, sym, ◌∙◌}
use Prim.Native.Nat.{ℕ, ◌≤◌}
use native.Mathlib.Omega.{arith}
use borrow.Author.Tests.{eqb-true}
use Rattle.meaning.specs.Whole.{Gave, unit_number, is_of, value_in, last_of, was_read, value_of, began_at, ended_at}
use Rattle.meaning.specs.declared.Carried.{Carried}
use Rattle.laws.proofs.Tests.{by-test, true-is-not-false}

-- what holds of every entry holds of the last one of a unit

unfoldable pub AllOf : (Gave → Type 0) → List Gave → Type 0
AllOf P [] = Unit
AllOf P (g ∷ gave) = P g × AllOf P gave

all_map : (P Q : Gave → Type 0) → ((g : Gave) → P g → Q g) → (gave : List Gave) → AllOf P gave → AllOf Q gave
unfolding AllOf
all_map P Q h [] k = tt
all_map P Q h (g ∷ gave) k = (h g k.0, all_map P Q h gave k.1)

pub record LastOf (P : Gave → Type 0) (gave : List Gave) (k : ℕ) : Type 0 where
  pub entry : Gave
  pub has : P entry
  pub of-unit : is_of k entry.carried ≡ true
  pub value : value_of gave k ≡ value_in entry.carried
  pub start : began_at gave k ≡ entry.start
  pub end : ended_at gave k ≡ entry.end

pub last-of : (P : Gave → Type 0) (gave : List Gave) (k : ℕ) → AllOf P gave → was_read gave k ≡ true → LastOf P gave k
unfolding AllOf last_of
last-of P [] k all e = true-is-not-false (sym e)
last-of P (g ∷ gave) k all e = go (is_of k g.carried) refl (last-of P gave k all.1)
  where
    go : (t : Bool) → is_of k g.carried ≡ t → (was_read gave k ≡ true → LastOf P gave k) → LastOf P (g ∷ gave) k
    go true d ih = record { entry = g; has = all.0; of-unit = d; value = rw d; start = rw d; end = rw d }
    go false d ih =
        let l = ih (rw d at e) in
        record { entry = l.entry; has = l.has; of-unit = l.of-unit; value = rw d l.value; start = rw d l.start; end = rw d l.end }

pub not-read : {A : Type 0} (of : Gave → A) (other : A) (gave : List Gave) (k : ℕ) → was_read gave k ≡ false → last_of of other gave k ≡ other
unfolding last_of
not-read of other [] k e = refl
not-read of other (g ∷ gave) k e =
    by-test (is_of k g.carried) (λ d. true-is-not-false (rw d at e)) (λ d. rw d (not-read of other gave k (rw d at e)))

-- entries in order, the newest first: each ends where the newer ones begin, or before, and the newest by a place

unfoldable pub InOrder : ℕ → List Gave → Type 0
InOrder at [] = Unit
InOrder at (g ∷ gave) = (g.end ≤ at) × (g.start ≤ g.end) × InOrder g.start gave

all_end : (at : ℕ) (gave : List Gave) → InOrder at gave → AllOf (λ g. g.end ≤ at) gave
unfolding InOrder AllOf
all_end at [] h = tt
all_end at (g ∷ gave) h =
    (h.0, all_map (λ o. o.end ≤ g.start) (λ o. o.end ≤ at) (λ o l. omega arith) gave (all_end g.start gave h.2))

one_unit : (c : Option Carried) (j k : ℕ) → is_of j c ≡ true → is_of k c ≡ true → j ≡ k
one_unit None j k d e = true-is-not-false (sym d)
one_unit (Some c) j k d e = sym (eqb-true (unit_number c.unit) j d) ∙ eqb-true (unit_number c.unit) k e

-- one of them ends where the other begins, or before
abbrev Apart : List Gave → ℕ → ℕ → Type 0
Apart gave j k = (ended_at gave j ≤ began_at gave k) ⊎ (ended_at gave k ≤ began_at gave j)

-- a unit that was read ended by that place
pub ended_by : (at : ℕ) (gave : List Gave) (k : ℕ) → InOrder at gave → was_read gave k ≡ true → ended_at gave k ≤ at
ended_by at gave k h e = let l = last-of (λ g. g.end ≤ at) gave k (all_end at gave h) e in rw l.end l.has

pub entries-apart : (at : ℕ) (gave : List Gave) (j k : ℕ) → InOrder at gave → (j ≡ k → ⊥) → was_read gave j ≡ true → was_read gave k ≡ true → Apart gave j k
unfolding InOrder last_of
entries-apart at [] j k h ne d e = true-is-not-false (sym d)
entries-apart at (g ∷ gave) j k h ne d e = go (is_of j g.carried) refl (is_of k g.carried) refl (entries-apart g.start gave j k h.2 ne)
  where
    go : (t : Bool) → is_of j g.carried ≡ t → (t' : Bool) → is_of k g.carried ≡ t'
        → (was_read gave j ≡ true → was_read gave k ≡ true → Apart gave j k) → Apart (g ∷ gave) j k
    go true a true b ih = absurd (ne (one_unit g.carried j k a b))
    go true a false b ih = inr (rw (a, b) (ended_by g.start gave k h.2 (rw b at e)))
    go false a true b ih = inl (rw (a, b) (ended_by g.start gave j h.2 (rw a at d)))
    go false a false b ih = rw (a, b) (ih (rw a at d) (rw b at e))
