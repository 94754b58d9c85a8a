-- Where the words of steps and the held bytes lie in a row.
use mathlib.Core.List.{List}
use mathlib.Core.Path.{◌≡◌, ◌∙◌, ap, sym}
use Prim.Native.Nat.{ℕ, ◌+◌, ◌-◌, ◌≤◌, ◌<◌}
use native.Mathlib.Omega.{arith}
use borrow.Author.Tests.{le-leb, lt-leb}
use lib.ListN.{length, take, drop, length-drop}
use lib.Seq.{take-take, take-add, drop-drop, drop_at, length-take-le}
use Rattle.prepared.specs.Opened.{opened, accepted_by, refused_by}
use Rattle.std.specs.Prelude.{None}
use Rattle.words.specs.Rows.{xor_from, found, held_from, held_words, tail, mark, used, tag}

pub steps-there : (n : ℕ) (row : List ℕ) → n ≤ 256 → take (3 + n - 3) (drop 3 row) ≡ take n (take 256 (drop 3 row))
steps-there n row h = let e : 3 + n - 3 ≡ n = omega arith in rw (e, take-take n 256 (drop 3 row) h)

pub held-there : (from : ℕ) (row : List ℕ) → from ≤ 256 → 259 ≤ length row → take (259 - (3 + from)) (drop (3 + from) row) ≡ drop from (take 256 (drop 3 row))
held-there from row h long =
    let e : 259 - (3 + from) ≡ 256 - from = omega arith in
    let inside : from ≤ length (drop 3 row) = omega (arith, length-drop 3 row) in
    let whole : 256 ≡ from + (256 - from) = omega arith in
    rw e
    (sym (ap (λ (n : ℕ). drop from (take n (drop 3 row))) whole
    ∙ (ap (drop from) (take-add from (256 - from) (drop 3 row))
    ∙ (drop_at (take from (drop 3 row)) (take (256 - from) (drop from (drop 3 row))) from (length-take-le from (drop 3 row) inside)
    ∙ ap (take (256 - from)) (drop-drop from 3 row)))))

-- the exclusive or of both, one behind the other
pub all_words : (n : ℕ) (row : List ℕ) {sum check : ℕ} → held_from row ≤ 256 → n ≤ 256 → 259 ≤ length row
    → sum ≡ xor_from (found row) (take (3 + n - 3) (drop 3 row))
    → check ≡ xor_from sum (take (259 - (3 + held_from row)) (drop (3 + held_from row) row))
    → check ≡ xor_from (xor_from (found row) (take n (tail row))) (held_words row)
all_words n row few small long e d = rw (d, e, steps-there n row small, held-there (held_from row) row few long)

-- what a row is, by its length and its mark
module _ (row : List ℕ) where
  pub opened-short : length row < 259 → opened row ≡ None
  unfolding opened
  opened-short h = rw (lt-leb _ _ h)

  pub opened-unmarked : 259 ≤ length row → mark row < tag → opened row ≡ None
  unfolding opened
  opened-unmarked h k = rw (le-leb _ _ h, lt-leb _ _ k)

  pub opened-accepted : 259 ≤ length row → tag ≤ mark row → used row ≤ 256 → opened row ≡ accepted_by (used row) row
  unfolding opened
  opened-accepted h k few =
      let none : used row < 1025 = omega arith in
      rw (le-leb _ _ h, le-leb _ _ k, le-leb _ _ few, lt-leb _ _ none)

  pub opened-refused : 259 ≤ length row → tag ≤ mark row → 256 < used row → opened row ≡ refused_by (used row) row
  unfolding opened
  opened-refused h k many = rw (le-leb _ _ h, le-leb _ _ k, lt-leb _ _ many)
