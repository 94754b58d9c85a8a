-- Laws of the first and the second byte of a literal's text, for the code that looks at the pattern's bytes.
use mathlib.Core.Bool.{Bool}
use mathlib.Core.List.{List, [], ◌∷◌}
use mathlib.Core.Path.{◌≡◌, refl}
use Prim.Native.Nat.{ℕ, zero, suc, ◌+◌, ◌≤◌, ◌<◌}
use native.Mathlib.Omega.{arith}
use borrow.Author.Tests.{le-ltb}
use lib.Dec.{eqb}
use lib.ListN.{length, get_or, drop, replicate, drop_of_length-le}
use Rattle.meaning.specs.Bytes.{when, is_digit, digit_at, quote}
use Rattle.pattern.proofs.parts.Inside.{unescaped-turn}
use Rattle.pattern.specs.First.{unescaped}
use Rattle.verdict.specs.Insides.{inside_second}

-- a run of equal bytes

pub run_first : (b n : ℕ) → 1 ≤ n → digit_at 0 (replicate n b) ≡ is_digit b
unfolding digit_at
run_first b zero h = absurd (omega arith)
run_first b (suc n) h = refl

pub run_second : (b n : ℕ) → 2 ≤ n → digit_at 1 (replicate n b) ≡ is_digit b
unfolding digit_at
run_second b zero h = absurd (omega arith)
run_second b (suc zero) h = absurd (omega arith)
run_second b (suc (suc n)) h = refl

-- the inside of a quoted part

pub inside_none : (s : List ℕ) → length s ≡ 0 → unescaped s ≡ []
unfolding unescaped
inside_none [] h = refl
inside_none (b ∷ s) h = absurd (omega arith)

pub inside_first : (s : List ℕ) → 0 < length s → digit_at 0 (unescaped s) ≡ is_digit (get_or s 0 0)
unfolding digit_at
inside_first s h = rw (unescaped-turn s 0 h)

pub second_none : (s : List ℕ) (behind : Bool) → length s ≡ 0 → inside_second (unescaped s) behind ≡ behind
unfolding inside_second
second_none s behind h = rw (inside_none s h)

module _ (s : List ℕ) (behind : Bool) (i : ℕ) (e : i ≡ when (eqb (get_or s 0 0) quote) 2 1) (h : 0 < length s) where
  turned : unescaped s ≡ get_or s 0 0 ∷ unescaped (drop i s)
  turned =
      let k : 0 + when (eqb (get_or s 0 0) quote) 2 1 ≡ i = omega (arith, e) in
      rw k at (unescaped-turn s 0 h)

  pub second_behind : length s ≤ i → inside_second (unescaped s) behind ≡ behind
  unfolding inside_second unescaped
  second_behind k = rw (turned, drop_of_length-le s k)

  pub second_byte : i < length s → inside_second (unescaped s) behind ≡ is_digit (get_or s i 0)
  unfolding inside_second digit_at
  second_byte k =
      let rest = unescaped (drop (i + when (eqb (get_or s i 0) quote) 2 1) s) in
      rw (turned, unescaped-turn s i k, le-ltb (length (get_or s 0 0 ∷ get_or s i 0 ∷ rest)) 2 (omega arith))
