-- A pattern has no more parts than bytes.
use mathlib.Core.List.{List, [], ◌∷◌}
use Prim.Native.Nat.{ℕ, zero, suc, ◌≤◌}
use native.Mathlib.Omega.{arith}
use lib.ListN.{length, drop, length-drop, length-map}
use Rattle.meaning.specs.Splitting.{contents, length_of}
use Rattle.meaning.specs.Writing.{step_of, steps}
use Rattle.meaning.specs.declared.Pair.{Pair}
use Rattle.pattern.proofs.parts.First.{contents-first, first-sized}
use Rattle.pattern.specs.First.{first_content}

few-more : (most : ℕ) → ((p : List ℕ) → length p ≤ most → length (contents p) ≤ length p)
    → (p : List ℕ) → length p ≤ suc most → length (contents p) ≤ length p
unfolding contents
few-more most few [] h = omega arith
few-more most few (b ∷ p) h =
    let n = length_of (first_content (b ∷ p)) in
    let sized = first-sized (b ∷ p) (omega arith) in
    let behind = length-drop n (b ∷ p) in
    rw (contents-first (b ∷ p) (omega arith)) (omega (arith, sized.0, sized.1, few (drop n (b ∷ p)) (omega (arith, sized.0))))

few-none : (p : List ℕ) → length p ≤ 0 → length (contents p) ≤ length p
unfolding contents
few-none [] h = omega arith
few-none (b ∷ p) h = absurd (omega arith)

few-contents : (most : ℕ) → (p : List ℕ) → length p ≤ most → length (contents p) ≤ length p
few-contents zero = few-none
few-contents (suc most) = few-more most (few-contents most)

pub few-steps : (pair : Pair) (p : List ℕ) → length (steps pair p) ≤ length p
unfolding steps
few-steps pair p = rw (length-map (contents p) (step_of pair)) (few-contents (length p) p (omega arith))
