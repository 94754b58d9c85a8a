-- The bytes that a word holds in the row: how many there are, and which.
use mathlib.Core.Bool.{true, false}
use mathlib.Core.List.{List, [], ◌∷◌, map}
use mathlib.Core.Path.{◌≡◌, refl, ap, ◌∙◌}
use Prim.Native.Nat.{ℕ, zero, suc, ◌+◌, ◌-◌, ◌%◌, ◌≤◌, ◌<◌, min}
use native.Mathlib.Omega.{arith}
use lib.Dec.{leb}
use borrow.Author.Tests.{leb-true, leb-false}
use lib.ListN.{length, get_or, take, drop, length-take, length-drop, length-map, get_or-map}
use lib.Seq.{take_all, take-take, get_or-take, get_or-drop}
use Rattle.laws.proofs.Tests.{by-test}
use Rattle.word_writer.specs.Written.{held_text}
use Rattle.words.specs.Fields.{count, from, is_lost}
use Rattle.words.specs.Pieces.{held_bytes}

take-map : (g : ℕ → ℕ) (k : ℕ) (l : List ℕ) → take k (map g l) ≡ map g (take k l)
take-map g zero l = refl
take-map g (suc k) [] = refl
take-map g (suc k) (x ∷ l) = ap (λ (r : List ℕ). g x ∷ r) (take-map g k l)

pub held-count : (tail : List ℕ) (i n : ℕ) → length (held_bytes tail i n) ≡ min n (length tail - i)
unfolding held_bytes
held-count tail i n = rw (length-map, length-take, length-drop)

-- those that lie behind the end are none
pub held-there : (tail : List ℕ) (i n : ℕ) → held_bytes tail i n ≡ held_bytes tail i (min n (length tail - i))
unfolding held_bytes
held-there tail i n =
    by-test (leb n (length tail - i))
    (λ e.
    let all : min n (length tail - i) ≡ n = omega (arith, leb-true n (length tail - i) e) in
    rw all)
    (λ e.
    let fewer = leb-false n (length tail - i) e in
    let size : length (drop i tail) ≡ length tail - i = length-drop i tail in
    let left : min n (length tail - i) ≡ length tail - i = omega arith in
    rw (left, take_all n (drop i tail) (omega arith), take_all (length tail - i) (drop i tail) (omega arith)))

-- the first of them
pub held-less : (tail : List ℕ) (i n k : ℕ) → k ≤ n → take k (held_bytes tail i n) ≡ held_bytes tail i k
unfolding held_bytes
held-less tail i n k h = rw (take-map (λ w. w % 256) k (take n (drop i tail)), take-take k n (drop i tail) h)

pub held_at : (tail : List ℕ) (i n j : ℕ) → j < n → get_or (held_bytes tail i n) j 0 ≡ get_or tail (i + j) 0 % 256
unfolding held_bytes
held_at tail i n j h =
    get_or-map (λ w. w % 256) (take n (drop i tail)) j 0 ∙ rw (get_or-take n (drop i tail) j 0 h, get_or-drop)

-- what is written of them
module _ (tail : List ℕ) (w n : ℕ) (there : n ≡ min (count w) (length tail - from w)) where
  pub held_kept : is_lost w ≡ false → held_text tail w ≡ held_bytes tail (from w) n
  held_kept e = rw (e, there) (held-there tail (from w) (count w))

  pub held-lost : is_lost w ≡ true → held_text tail w ≡ held_bytes tail (from w) (n - 1)
  held-lost e =
      rw (e, held-count tail (from w) (count w), ← there) (held-less tail (from w) (count w) (n - 1) (omega arith))
