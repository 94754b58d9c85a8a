-- A sequence that never falls: a number stands in one of its steps alone.
use mathlib.Core.Path.{◌≡◌}
use Prim.Native.Nat.{ℕ, zero, suc, ◌≤◌, ◌<◌}
use native.Mathlib.Omega.{arith}
use borrow.Author.Tests.{ltb-true, ltb-false, leb-true, leb-false}
use lib.Dec.{ltb, leb}
use Rattle.laws.proofs.Tests.{by-test}

module _ (f : ℕ → ℕ) (top : ℕ) (step : (k : ℕ) → k < top → f k ≤ f (suc k)) where
  pub never-falls : (a b : ℕ) → a ≤ b → b ≤ top → f a ≤ f b
  never-falls a zero h t = let e : a ≡ 0 = omega arith in rw e (omega arith)
  never-falls a (suc b) h t =
      by-test (leb a b) (λ e. let g = never-falls a b (leb-true a b e) (omega arith) in omega (arith, step b (omega arith)))
      (λ e. let d : a ≡ suc b = omega (arith, leb-false a b e) in rw d (omega arith))

  pub one-step : (a b n : ℕ) → a < top → b < top → f a ≤ n → n < f (suc a) → f b ≤ n → n < f (suc b) → a ≡ b
  one-step a b n ta tb la ua lb ub =
      by-test (ltb a b) (λ e. absurd (let g = never-falls (suc a) b (ltb-true a b e) (omega arith) in omega arith))
      (λ e. by-test (ltb b a) (λ d. absurd (let g = never-falls (suc b) a (ltb-true b a d) (omega arith) in omega arith))
      (λ d. omega (arith, ltb-false a b e, ltb-false b a d)))
