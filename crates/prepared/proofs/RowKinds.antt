-- A row with such a head is that of an accepted pattern, or of a refused one.
use mathlib.Core.Bool.{true, false}
use mathlib.Core.List.{List}
use mathlib.Core.Path.{◌≡◌, ap, ◌∙◌}
use Prim.Native.Nat.{ℕ, ◌+◌, ◌%◌, ◌≤◌, ◌<◌}
use native.Mathlib.Omega.{arith}
use borrow.Author.Tests.{le-leb, lt-leb, lt-ltb, eq-eqb}
use lib.ListN.{length, take, drop}
use Rattle.words.specs.Rows.{tag, mark, check_word, found, held_from, tail, used, step_words, held_words, xor_from, is_accepted, is_refused, refusal_of, refusal_in}
use Rattle.prepared.specs.PreparedRows.{held_start}

module _ (row ws hs : List ℕ) (n : ℕ) (long : 259 ≤ length row) (few : length ws ≤ 256) (marked : mark row ≡ tag + length ws)
    (finds : found row ≡ n) (starts : n % 512 ≡ held_start hs) (checked : check_word row ≡ xor_from (xor_from n ws) hs)
    (words-lie : take (length ws) (tail row) ≡ ws) (held-lie : drop (held_start hs) (tail row) ≡ hs) where
  used-is : used row ≡ length ws
  used-is = omega (arith, marked)

  pub step_words_lem : step_words row ≡ ws
  step_words_lem = ap (λ (k : ℕ). take k (tail row)) used-is ∙ words-lie

  held-from : held_from row ≡ held_start hs
  held-from = ap (λ (k : ℕ). k % 512) finds ∙ starts

  held-words : held_words row ≡ hs
  held-words = ap (λ (k : ℕ). drop k (tail row)) held-from ∙ held-lie

  all_words : xor_from (xor_from (found row) (step_words row)) (held_words row) ≡ check_word row
  all_words = rw (step_words_lem, held-words, finds, checked)

  pub row-accepted : is_accepted row ≡ true
  row-accepted =
      rw (le-leb _ _ long, le-leb tag (mark row) (omega (arith, marked)), le-leb (used row) 256 (omega (arith, marked)), le-leb (held_from row) 256 (omega (arith, held-from)), eq-eqb _ _ all_words)

module _ (row : List ℕ) (k detail : ℕ) (long : 259 ≤ length row) (some : 1 ≤ k) (few : k ≤ 3) (marked : mark row ≡ tag + (1024 + k))
    (finds : found row ≡ detail) (checked : check_word row ≡ detail) (small : detail < 9223372036854775808) where
  pub row-not-accepted : is_accepted row ≡ false
  row-not-accepted =
      let many : 256 < used row = omega (arith, marked) in
      rw (le-leb _ _ long, le-leb tag (mark row) (omega (arith, marked)), lt-leb _ _ many)

  pub row-refused : is_refused row ≡ true
  row-refused =
      let same : found row ≡ check_word row = omega (arith, finds, checked) in
      rw (le-leb _ _ long, le-leb tag (mark row) (omega (arith, marked)), le-leb 1025 (used row) (omega (arith, marked)), le-leb (used row) 1027 (omega (arith, marked)), lt-ltb (found row) 9223372036854775808 (omega (arith, finds)), eq-eqb _ _ same)

  pub row-refusal : refusal_in row ≡ refusal_of (1024 + k) detail
  row-refusal = let e : used row ≡ 1024 + k = omega (arith, marked) in rw (e, finds)
