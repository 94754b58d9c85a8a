-- Laws of the first byte that the shape does not take: a byte that is taken and one that is not, the turns of the search, and a text that
-- ends too soon, behind which nothing is taken.
use mathlib.Core.Bool.{true, false}
use mathlib.Core.List.{List}
use mathlib.Core.Path.{◌≡◌, refl, sym, ◌∙◌}
use Prim.Native.Nat.{ℕ, zero, suc, ◌+◌, ◌-◌, ◌≤◌, ◌<◌}
use native.Mathlib.Nat.{add-zero, sub-zero}
use native.Mathlib.Omega.{arith}
use lib.Dec.{eqb}
use lib.ListN.{length, get_or, get_or-eq_default}
use Rattle.laws.proofs.Tests.{by-test}
use Rattle.stamps.specs.Shape.{takes, first_wrong}

module _ (k i at : ℕ) (s : List ℕ) where
  pub wrong-later : takes i (get_or s at 0) ≡ true → first_wrong (suc k) i at s ≡ first_wrong k (suc i) (suc at) s
  unfolding first_wrong
  wrong-later e = rw (e, first_wrong)

  pub wrong-here : takes i (get_or s at 0) ≡ false → first_wrong (suc k) i at s ≡ at
  unfolding first_wrong
  wrong-here e = rw (e, first_wrong)

-- the search

pub wrong-none : (count shape at : ℕ) (s : List ℕ) → count ≤ 0 → first_wrong count shape at s ≡ at
unfolding first_wrong
wrong-none count shape at s h = let e : count ≡ 0 = omega arith in rw e

pub wrong_start : (count shape at : ℕ) (s : List ℕ) → first_wrong (count - 0) (shape + 0) (at + 0) s ≡ first_wrong count shape at s
wrong_start count shape at s = rw (add-zero shape, add-zero at, sub-zero count)

module _ (count shape at i : ℕ) (s : List ℕ) (h : i < count) where
  more : count - i ≡ suc (count - (i + 1))
  more = omega arith

  pub wrong-next : takes (shape + i) (get_or s (at + i) 0) ≡ true
      → first_wrong (count - (i + 1)) (shape + (i + 1)) (at + (i + 1)) s ≡ first_wrong (count - i) (shape + i) (at + i) s
  wrong-next e =
      let one : shape + (i + 1) ≡ suc (shape + i) = omega arith in
      let next : at + (i + 1) ≡ suc (at + i) = omega arith in
      rw (one, next, more) (sym (wrong-later (count - (i + 1)) (shape + i) (at + i) s e))

  pub wrong-found : takes (shape + i) (get_or s (at + i) 0) ≡ false → first_wrong (count - i) (shape + i) (at + i) s ≡ at + i
  wrong-found e = rw more (wrong-here (count - (i + 1)) (shape + i) (at + i) s e)

-- no place takes 0

nothing : (i : ℕ) → takes i 0 ≡ false
unfolding takes
nothing i =
    by-test (eqb i 4) (λ a. rw a)
    (λ a. by-test (eqb i 7) (λ b. rw (a, b))
    (λ b. by-test (eqb i 10) (λ d. rw (a, b, d))
    (λ d. by-test (eqb i 13) (λ e. rw (a, b, d, e)) (λ e. by-test (eqb i 16) (λ f. rw (a, b, d, e, f)) (λ f. rw (a, b, d, e, f))))))

wrong-behind : (k i at : ℕ) (s : List ℕ) → length s ≤ at → first_wrong k i at s ≡ at
unfolding first_wrong
wrong-behind zero i at s h = refl
wrong-behind (suc k) i at s h = wrong-here k i at s (rw (get_or-eq_default s 0 h) (nothing i))

pub wrong-short : (k m i at : ℕ) (s : List ℕ) → k ≤ m → length s ≤ at + k → first_wrong m i at s ≡ first_wrong k i at s
unfolding first_wrong
wrong-short zero m i at s few h = wrong-behind m i at s (omega arith)
wrong-short (suc k) zero i at s few h = absurd (omega arith)
wrong-short (suc k) (suc m) i at s few h =
    by-test (takes i (get_or s at 0))
    (λ e. wrong-later m i at s e ∙ wrong-short k m (suc i) (suc at) s (omega arith) (omega arith) ∙ sym (wrong-later k i at s e))
    (λ e. wrong-here m i at s e ∙ sym (wrong-here k i at s e))

-- so many bytes and then more

pub wrong-most : (k i at : ℕ) (s : List ℕ) → first_wrong k i at s ≤ at + k
unfolding first_wrong
wrong-most zero i at s = omega arith
wrong-most (suc k) i at s =
    by-test (takes i (get_or s at 0))
    (λ e. rw (wrong-later k i at s e) (omega (arith, wrong-most k (suc i) (suc at) s)))
    (λ e. rw (wrong-here k i at s e) (omega arith))

pub wrong-beyond : (k m i at : ℕ) (s : List ℕ) → first_wrong k i at s ≡ at + k → k ≤ m → first_wrong m i at s ≡ first_wrong (m - k) (i + k) (at + k) s
unfolding first_wrong
wrong-beyond zero m i at s all few = rw (add-zero i, add-zero at, sub-zero m)
wrong-beyond (suc k) zero i at s all few = absurd (omega arith)
wrong-beyond (suc k) (suc m) i at s all few =
    by-test (takes i (get_or s at 0))
    (λ e.
    let shape : suc i + k ≡ i + suc k = omega arith in
    let place : suc at + k ≡ at + suc k = omega arith in
    let less : m - k ≡ suc m - suc k = omega arith in
    wrong-later m i at s e
    ∙ wrong-beyond k m (suc i) (suc at) s (sym (wrong-later k i at s e) ∙ all ∙ sym place) (omega arith)
    ∙ rw (shape, place, less))
    (λ e. absurd (omega (arith, wrong-here k i at s e)))

pub wrong-within : (k m i at : ℕ) (s : List ℕ) → first_wrong k i at s < at + k → k ≤ m → first_wrong m i at s ≡ first_wrong k i at s
unfolding first_wrong
wrong-within zero m i at s some few = absurd (omega arith)
wrong-within (suc k) zero i at s some few = absurd (omega arith)
wrong-within (suc k) (suc m) i at s some few =
    by-test (takes i (get_or s at 0))
    (λ e.
    wrong-later m i at s e
    ∙ wrong-within k m (suc i) (suc at) s (omega (arith, wrong-later k i at s e)) (omega arith)
    ∙ sym (wrong-later k i at s e))
    (λ e. wrong-here m i at s e ∙ sym (wrong-here k i at s e))

-- what is taken where nothing is wrong
pub taken_at : (k i at : ℕ) (s : List ℕ) → first_wrong k i at s ≡ at + k → (j : ℕ) → j < k → takes (i + j) (get_or s (at + j) 0) ≡ true
unfolding first_wrong
taken_at zero i at s all j h = absurd (omega arith)
taken_at (suc k) i at s all j h =
    by-test (takes i (get_or s at 0))
    (λ e. go j h e (λ m l. taken_at k (suc i) (suc at) s (omega (arith, wrong-later k i at s e)) m l))
    (λ e. absurd (omega (arith, wrong-here k i at s e)))
  where
    go : (j : ℕ) → j < suc k → takes i (get_or s at 0) ≡ true → ((m : ℕ) → m < k → takes (suc i + m) (get_or s (suc at + m) 0) ≡ true)
        → takes (i + j) (get_or s (at + j) 0) ≡ true
    go zero h e more = rw (add-zero i, add-zero at) e
    go (suc j) h e more =
        let shape : suc i + j ≡ i + suc j = omega arith in
        let place : suc at + j ≡ at + suc j = omega arith in
        rw (shape, place) at (more j (omega arith))
