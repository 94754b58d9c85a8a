-- Which names are matched by their letters, and that those are the names of their list.
use mathlib.Core.Bool.{true}
use mathlib.Core.Logic.{◌⊎◌, inl, inr, ⊎_elim}
use mathlib.Core.Path.{◌≡◌}
use Prim.Native.Nat.{ℕ}
use borrow.Author.Tests.{eqb-true}
use lib.Dec.{eqb}
use Rattle.laws.proofs.Tests.{by-test, both_true}
use Rattle.names.proofs.Spelled.{months-spelled, short-months-spelled, weekdays-spelled}
use Rattle.names.specs.Letters.{IsSpelled}
use Rattle.words.specs.Coding.{list_in, is_spelled, is_spelled_list, first_spelled, most_letters}
use Rattle.words.specs.Fields.{kind, item}

pub spelled-kinds : (w : ℕ) → is_spelled w ≡ true → (item w ≡ 4) ⊎ ((item w ≡ 5) ⊎ (item w ≡ 8))
spelled-kinds w h =
    by-test (eqb (item w) 4) (λ e. inl (eqb-true (item w) 4 e))
    (λ e.
    by-test (eqb (item w) 5) (λ d. inr (inl (eqb-true (item w) 5 d)))
    (λ d. inr (inr (eqb-true (item w) 8 (rw (e, d) at (both_true (eqb (kind w) 4) (is_spelled_list (item w)) h).1)))))

pub spelled-word : (w : ℕ) → is_spelled w ≡ true → (kind w ≡ 4) × IsSpelled (list_in (item w)) (first_spelled w) (most_letters w)
unfolding list_in
spelled-word w h = (
  eqb-true (kind w) 4 (both_true (eqb (kind w) 4) (is_spelled_list (item w)) h).0,
  ⊎_elim (λ e. rw e short-months-spelled) (⊎_elim (λ e. rw e months-spelled) (λ e. rw e weekdays-spelled)) (spelled-kinds w h),
)
