-- The rows of changes: laid one by one, looked at, and read into a list.
use mathlib.Core.Bool.{true, false}
use mathlib.Core.List.{List, [], ◌∷◌, ◌++◌, append-nil}
use mathlib.Core.Path.{◌≡◌, refl, sym, ap, ◌∙◌}
use Prim.Native.Nat.{ℕ, zero, suc, ◌+◌, ◌*◌, ◌%◌, ◌≤◌, ◌<◌}
use native.Mathlib.Numerals.{add-one}
use native.Mathlib.Omega.{arith}
use lib.IntN.{ℤ, pos}
use lib.ListN.{length, get_or, take, drop, set, drop_of_length-le}
use lib.Seq.{sets, drop-cons, take-suc-set, append_snoc}
use Rattle.laws.proofs.Laid.{sets-append}
use Rattle.laws.proofs.Tests.{by-test, true-is-not-false, both_true}
use Rattle.meaning.specs.Bytes.{both}
use Rattle.meaning.specs.Mending.{no_change, change_numbers}
use Rattle.meaning.specs.declared.Change.{Change}
use Rattle.rows.specs.Fits.{ChangeFits, AllChangesFit}
use Rattle.rows.specs.Changes.{is_change, are_changes, changes_held, entry_at, is_change_at, change_at}

-- laid: what lies in the row and what is still to be laid are all the changes

pub changes-turn : (row : List ℤ) (cs : List Change) (i : ℕ) → i < length cs
    → sets (sets row (4 * i) (change_numbers (get_or cs i no_change ∷ []))) (4 * (i + 1)) (change_numbers (drop (i + 1) cs)) ≡ sets row (4 * i) (change_numbers (drop i cs))
unfolding change_numbers
changes-turn row cs i h =
    let next : 4 * (i + 1) ≡ 4 * i + 4 = omega arith in
    rw (next, add-one i, drop-cons cs i no_change h) (sym (sets-append row (4 * i) (change_numbers (get_or cs i no_change ∷ [])) (change_numbers (drop (suc i) cs))))

pub changes-end : (row : List ℤ) (cs : List Change) (i : ℕ) → length cs ≤ i → sets row (4 * i) (change_numbers (drop i cs)) ≡ row
unfolding change_numbers
changes-end row cs i h = rw (drop_of_length-le cs h)

pub change-fits : (cs : List Change) → AllChangesFit cs → (i : ℕ) → ChangeFits (get_or cs i no_change)
unfolding AllChangesFit
change-fits [] h i = (omega arith, omega arith, omega arith)
change-fits (c ∷ cs) h zero = h.0
change-fits (c ∷ cs) h (suc i) = change-fits cs h.1 i

-- looked at: the four numbers at a place

module _ (row : List ℤ) (at : ℕ) (h : at + 4 ≤ length row) where
  four : drop at row ≡ entry_at row at ∷ entry_at row (at + 1) ∷ entry_at row (at + 2) ∷ entry_at row (at + 3) ∷ drop (at + 4) row
  four =
      let a : at < length row = omega arith in
      let b : suc at < length row = omega arith in
      let c : suc (suc at) < length row = omega arith in
      let d : suc (suc (suc at)) < length row = omega arith in
      let one : at + 1 ≡ suc at = omega arith in
      let two : at + 2 ≡ suc (suc at) = omega arith in
      let three : at + 3 ≡ suc (suc (suc at)) = omega arith in
      let all : at + 4 ≡ suc (suc (suc (suc at))) = omega arith in
      rw (one, two, three, all, drop-cons row at (pos 0) a, drop-cons row (suc at) (pos 0) b, drop-cons row (suc (suc at)) (pos 0) c, drop-cons row (suc (suc (suc at))) (pos 0) d)

  are-next : are_changes (drop at row) ≡ both (is_change_at row at) (are_changes (drop (at + 4) row))
  unfolding are_changes
  are-next = ap are_changes four

  pub are-on : is_change_at row at ≡ true → are_changes (drop (at + 4) row) ≡ are_changes (drop at row)
  are-on e = sym (are-next ∙ rw e)

  pub are-not : is_change_at row at ≡ false → are_changes (drop at row) ≡ false
  are-not e = are-next ∙ rw e

  pub are-here : are_changes (drop at row) ≡ true → (is_change_at row at ≡ true) × (are_changes (drop (at + 4) row) ≡ true)
  are-here e = both_true (is_change_at row at) (are_changes (drop (at + 4) row)) (sym are-next ∙ e)

  pub held_next : changes_held (drop at row) ≡ change_at row at ∷ changes_held (drop (at + 4) row)
  unfolding changes_held
  held_next = ap changes_held four

pub are_whole : (zs : List ℤ) → are_changes zs ≡ true → length zs % 4 ≡ 0
unfolding are_changes
are_whole [] e = refl
are_whole (a ∷ []) e = true-is-not-false (sym e)
are_whole (a ∷ b ∷ []) e = true-is-not-false (sym e)
are_whole (a ∷ b ∷ c ∷ []) e = true-is-not-false (sym e)
are_whole (a ∷ b ∷ c ∷ d ∷ zs) e = omega (arith, are_whole zs (both_true (is_change a b c d) (are_changes zs) e).1)

pub not-four : (zs : List ℤ) → (length zs % 4 ≡ 0 → ⊥) → are_changes zs ≡ false
not-four zs h = by-test (are_changes zs) (λ e. absurd (h (are_whole zs e))) (λ e. e)

pub are_all : (zs : List ℤ) (at : ℕ) → length zs ≤ at → are_changes (drop at zs) ≡ true
unfolding are_changes
are_all zs at h = rw (drop_of_length-le zs h)

-- read into a list

pub held-turn : {X : List Change} (listed : List Change) (used : ℕ) (c : Change) (cs : List Change) → used < length listed
    → take used listed ++ c ∷ cs ≡ X → take (used + 1) (set listed used c) ++ cs ≡ X
held-turn listed used c cs h e = rw (add-one used, take-suc-set listed used c h, append_snoc) e

pub held-end : {X : List Change} (listed : List Change) (used : ℕ) (row : List ℤ) (at : ℕ) → length row ≤ at
    → take used listed ++ changes_held (drop at row) ≡ X → take used listed ≡ X
unfolding changes_held
held-end listed used row at h e = sym (append-nil (take used listed)) ∙ rw (drop_of_length-le row h) at e
