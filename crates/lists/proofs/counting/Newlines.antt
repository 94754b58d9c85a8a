-- There are no more newlines than bytes.
use mathlib.Core.List.{List, [], ◌∷◌}
use Prim.Native.Nat.{ℕ, ◌≤◌}
use native.Mathlib.Omega.{arith}
use lib.Dec.{eqb}
use lib.ListN.{length}
use Rattle.laws.proofs.Tests.{when-is}
use Rattle.laws.specs.Lists.{newlines}
use Rattle.meaning.specs.Lists.{newline}

pub few-newlines : (s : List ℕ) → newlines s ≤ length s
unfolding newlines
few-newlines [] = omega arith
few-newlines (b ∷ s) =
    omega (arith, few-newlines s, when-is (λ (n : ℕ). n ≤ 1) (eqb b newline) (λ _. let t : 1 ≤ 1 = omega arith in t) (λ _. let t : 0 ≤ 1 = omega arith in t))
