-- Names come back: in a list where no name begins another, a name is found again whatever follows it.
use mathlib.Core.Bool.{Bool, true, false}
use mathlib.Core.List.{List, [], ◌∷◌, ◌++◌}
use mathlib.Core.Path.{◌≡◌, refl, ap, ◌∙◌}
use Prim.Native.Nat.{ℕ, zero, suc, ◌+◌, ◌<◌}
use native.Mathlib.Omega.{arith}
use lib.Dec.{eqb}
use lib.ListN.{length, get_or}
use borrow.Author.Tests.{eq-eqb}
use Rattle.meaning.specs.Bytes.{when, both}
use Rattle.meaning.specs.Readers.{got, begins, first_name, match_name}
use Rattle.laws.proofs.Tests.{both_true, every, every-at, true-is-not-false}

-- neither of two names begins the other
unfoldable pub apart : List ℕ → List ℕ → Bool
apart [] b = false
apart (i ∷ a) [] = false
apart (i ∷ a) (j ∷ b) = when (eqb i j) (apart a b) true

-- no name of a list begins another
unfoldable pub all_apart : List (List ℕ) → Bool
unfolding every apart
all_apart [] = true
all_apart (a ∷ l) = both (every (apart a) l) (all_apart l)

begins-itself : (a r : List ℕ) → begins a (a ++ r) ≡ true
unfolding begins
begins-itself [] r = refl
begins-itself (i ∷ a) r = rw (eq-eqb i i refl, begins) (begins-itself a r)

not-begun : (a b r : List ℕ) → apart a b ≡ true → begins a (b ++ r) ≡ false
unfolding begins apart
not-begun [] b r h = true-is-not-false (rw h)
not-begun (i ∷ a) [] r h = true-is-not-false (rw h)
not-begun (i ∷ a) (j ∷ b) r h = go (eqb i j) refl (λ k. not-begun a b r k)
  where
    go : (t : Bool) → eqb i j ≡ t → (apart a b ≡ true → begins a (b ++ r) ≡ false) → begins (i ∷ a) (j ∷ b ++ r) ≡ false
    go true e ih = rw e (ih (rw e at h))
    go false e ih = rw e

-- a name that is written, before anything, is the one that is found
pub found_from : (k : ℕ) (l : List (List ℕ)) (i : ℕ) (r : List ℕ) → all_apart l ≡ true → i < length l
    → first_name k l (get_or l i [] ++ r) ≡ got (length (get_or l i [])) (k + i)
unfolding first_name all_apart
found_from k [] i r h m = absurd (omega arith)
found_from k (a ∷ l) zero r h m = rw (begins-itself a r) (ap (got (length a)) (omega arith))
found_from k (a ∷ l) (suc i) r h m =
    let t = both_true (every (apart a) l) (all_apart l) h in
    rw (not-begun a (get_or l i []) r (every-at (apart a) l [] t.0 i (omega arith)))
    (found_from (suc k) l i r t.1 (omega arith) ∙ ap (got (length (get_or l i []))) (omega arith))

pub name-comes-back : (l : List (List ℕ)) (i : ℕ) (r : List ℕ) → all_apart l ≡ true → i < length l
    → match_name l (get_or l i [] ++ r) ≡ got (length (get_or l i [])) i
unfolding match_name
name-comes-back l i r h m = found_from 0 l i r h m ∙ ap (got (length (get_or l i []))) (omega arith)
