-- What a caller learns from the answer of a matcher: the match of the definitions, and its bounds.
use mathlib.Core.Bool.{true}
use Rattle.std.specs.Prelude.{Some, None}
use mathlib.Core.List.{List, [], ◌∷◌}
use mathlib.Core.Path.{◌≡◌, refl, sym, ◌∙◌}
use Prim.Native.Nat.{ℕ, suc, ◌+◌, ◌≤◌, ◌<◌}
use native.Mathlib.Omega.{arith}
use borrow.Author.Tests.{ltb-true, ltb-false}
use lib.Dec.{ltb}
use lib.ListN.{length}
use Rattle.laws.proofs.Tests.{by-test, true-is-not-false, when-is}
use Rattle.meaning.specs.Readers.{Got, got, stopped, begins, first_name, match_name}
use Rattle.meaning.specs.declared.Trouble.TheVariants.{NoName}
use Rattle.names.specs.Table.{found_in}
use Rattle.names.specs.declared.tables.Found.{Found}
use Rattle.names.proofs.tables.Laws.{too_long}

pub found_name : (g : Got ℕ) {f : Found} → found_in g ≡ Some f → g ≡ got f.length f.index
found_name (got n index) e = cc
found_name (stopped why place) e = absurd (let z : ◌≡◌ {A = ℕ} 0 1 = cc in omega arith)

nothing-from : (i : ℕ) (names : List (List ℕ)) (s : List ℕ) → found_in (first_name i names s) ≡ None → first_name i names s ≡ stopped NoName 0
unfolding first_name
nothing-from i [] s = λ e. refl
nothing-from i (name ∷ names) s =
    when-is (λ (g : Got ℕ). found_in g ≡ None → g ≡ stopped NoName 0) (begins name s)
    (λ t e. absurd (let z : ◌≡◌ {A = ℕ} 0 1 = cc in omega arith)) (λ t. nothing-from (suc i) names s)

pub found_nothing : (names : List (List ℕ)) (s : List ℕ) → found_in (match_name names s) ≡ None → match_name names s ≡ stopped NoName 0
unfolding match_name
found_nothing names s = nothing-from 0 names s

begins-fits : (name s : List ℕ) → begins name s ≡ true → length name ≤ length s
begins-fits name s e =
    by-test (ltb (length s) (length name)) (λ t. true-is-not-false (sym e ∙ too_long name s (ltb-true _ _ t))) (λ t. ltb-false _ _ t)

within-from : (i : ℕ) (names : List (List ℕ)) (s : List ℕ) {index n : ℕ}
    → first_name i names s ≡ got n index → (index < i + length names) × (n ≤ length s)
unfolding first_name
within-from i [] s = λ e. absurd (let z : ◌≡◌ {A = ℕ} 0 1 = cc in omega arith)
within-from i (name ∷ names) s {index} {n} =
    when-is (λ (g : Got ℕ). g ≡ got n index → (index < i + suc (length names)) × (n ≤ length s)) (begins name s)
    (λ t e. let d : index ≡ i = cc in let f : n ≡ length name = cc in omega (arith, begins-fits name s t))
    (λ t e. let r = within-from (suc i) names s e in omega arith)

pub found_within : (names : List (List ℕ)) (s : List ℕ) {index n : ℕ}
    → match_name names s ≡ got n index → (index < length names) × (n ≤ length s)
unfolding match_name
found_within names s e = let r = within-from 0 names s e in omega arith
