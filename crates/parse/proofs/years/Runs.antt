-- Laws of the digits that stand at a place: one more, and the end.
use mathlib.Core.Bool.{true, false}
use mathlib.Core.List.{List, [], ◌∷◌}
use mathlib.Core.Path.{◌≡◌}
use Prim.Native.Nat.{ℕ, suc, ◌+◌, ◌≤◌, ◌<◌}
use native.Mathlib.Numerals.{add-one}
use native.Mathlib.Omega.{arith}
use lib.Dec.{eqb}
use lib.ListN.{length, get_or, drop, drop_of_length-le}
use lib.Seq.{drop-cons}
use Rattle.laws.proofs.Tests.{when-is}
use Rattle.meaning.specs.Bytes.{when, is_digit, minus}
use Rattle.meaning.specs.Reading.{digit_run, minus_first}

module _ (s : List ℕ) (i : ℕ) where
  pub run_more : i < length s → is_digit (get_or s i 0) ≡ true → digit_run (drop i s) ≡ suc (digit_run (drop (i + 1) s))
  unfolding digit_run
  run_more h e = rw (drop-cons s i 0 h, add-one, e)

  pub run-stops : i < length s → is_digit (get_or s i 0) ≡ false → digit_run (drop i s) ≡ 0
  unfolding digit_run
  run-stops h e = rw (drop-cons s i 0 h, e)

  pub run-done : length s ≤ i → digit_run (drop i s) ≡ 0
  unfolding digit_run
  run-done h = rw (drop_of_length-le s h)

  pub minus-here : i < length s → minus_first (drop i s) ≡ when (eqb (get_or s i 0) minus) 1 0
  minus-here h = rw (drop-cons s i 0 h)

  pub minus-none : length s ≤ i → minus_first (drop i s) ≡ 0
  minus-none h = rw (drop_of_length-le s h)

-- neither takes more than there is

pub minus-fits : (s : List ℕ) → (minus_first s ≤ length s) × (minus_first s ≤ 1)
minus-fits [] = (omega arith, omega arith)
minus-fits (b ∷ s) =
    when-is (λ (n : ℕ). (n ≤ suc (length s)) × (n ≤ 1)) (eqb b minus) (λ _. (omega arith, omega arith)) (λ _. (omega arith, omega arith))

pub run_fits : (s : List ℕ) → digit_run s ≤ length s
unfolding digit_run
run_fits [] = omega arith
run_fits (b ∷ s) =
    let rest = run_fits s in
    when-is (λ (n : ℕ). n ≤ suc (length s)) (is_digit b) (λ _. omega arith) (λ _. omega arith)
