-- What is answered to a mending: where the number stands for no choices, where a row is too small, and else.
use Rattle.std.specs.Prelude.{Result}
use mathlib.Core.Bool.{true, false}
use mathlib.Core.List.{List}
use mathlib.Core.Logic.{◌⊎◌, ⊎_elim}
use mathlib.Core.Path.{◌≡◌, refl}
use Prim.Native.Nat.{ℕ, ◌≤◌, ◌<◌}
use borrow.Author.Tests.{le-leb, lt-leb}
use lib.IntN.{ℤ}
use lib.ListN.{length}
use Rattle.laws.proofs.Tests.{both-no}
use Rattle.meaning.specs.declared.Mended.{Mended}
use Rattle.meaning.specs.declared.Refusal.{Refusal}
use Rattle.rows.specs.Changes.{mended_counts, mend_numbers}
use Rattle.rows.specs.Rows.{Given, in_row, laid}
use Rattle.sheet.specs.Numbers.{edition_of, of_check}
use Rattle.sheet.specs.Sheet.{has, SheetMends}
use Rattle.trust.specs.Mending.{mend, mend_output}

module _ (n : ℕ) (p : List ℕ) (current : ℤ) (out : List ℕ) (changes row : List ℤ) where
  pub no-choices : of_check n ≡ false → SheetMends n p current out changes row 101 out changes row
  no-choices e = rw e (record { number = refl; row = refl }, refl, refl)

  pub no_room : of_check n ≡ true → (length changes < 512) ⊎ (length row < 2) → SheetMends n p current out changes row 100 out changes row
  no_room e small =
      ⊎_elim (λ h. rw (e, lt-leb 512 (length changes) h) (record { number = refl; row = refl }, refl, refl))
      (λ h. rw (e, lt-leb 2 (length row) h, both-no (has 512 changes)) (record { number = refl; row = refl }, refl, refl)) small

  pub given : {r : ℕ} {m : Result Mended Refusal} {out_after : List ℕ} {changes_after row_after : List ℤ} → of_check n ≡ true → 512 ≤ length changes → 2 ≤ length row
      → m ≡ mend (edition_of n) p current out → out_after ≡ mend_output (edition_of n) p current out
      → Given (in_row 2 (mended_counts m)) row row_after r × (changes_after ≡ laid (mend_numbers m) changes)
      → SheetMends n p current out changes row r out_after changes_after row_after
  given e h k mended after g = rw (e, le-leb 512 (length changes) h, le-leb 2 (length row) k, ← mended) (g.0, after, g.1)
