-- Laws of how far a greedy number goes, by the bytes of the whole text: one byte on, and the end.
use mathlib.Core.Bool.{true, false}
use mathlib.Core.List.{List}
use mathlib.Core.Path.{◌≡◌}
use Prim.Native.Nat.{ℕ, suc, ◌+◌, ◌-◌, ◌≤◌, ◌<◌}
use native.Mathlib.Numerals.{add-one}
use native.Mathlib.Omega.{arith}
use lib.ListN.{get_or, drop}
use lib.Seq.{get_or-drop}
use Rattle.laws.proofs.Readers.{reach-on, reach-ends}
use Rattle.meaning.specs.Bytes.{is_digit, digit_at}
use Rattle.meaning.specs.Readers.{reach}

pub digit-there : (s : List ℕ) (at k : ℕ) → digit_at k (drop at s) ≡ is_digit (get_or s (at + k) 0)
unfolding digit_at
digit-there s at k = rw (get_or-drop)

module _ (s : List ℕ) (at k most : ℕ) where
  one_more : k < most → most - k ≡ suc (most - suc k)
  one_more h = omega arith

  pub reach-more : k < most → is_digit (get_or s (at + k) 0) ≡ true
      → reach (most - k) k (drop at s) ≡ reach (most - (k + 1)) (k + 1) (drop at s)
  reach-more h e = rw (one_more h, add-one) (reach-on (most - suc k) k (drop at s) (rw (digit-there s at k) e))

  pub reach-stops : k < most → is_digit (get_or s (at + k) 0) ≡ false → reach (most - k) k (drop at s) ≡ k
  reach-stops h e = rw (one_more h) (reach-ends (most - suc k) k (drop at s) (rw (digit-there s at k) e))

  pub reach-done : most ≤ k → reach (most - k) k (drop at s) ≡ k
  unfolding reach
  reach-done h = let none_left : most - k ≡ 0 = omega arith in rw (none_left)
