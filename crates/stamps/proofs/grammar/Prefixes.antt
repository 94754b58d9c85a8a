-- Rules that begin with bytes at fixed places: they halt at the first that the shape does not take, and else go on behind them. One such
-- rule behind another is one with the bytes of both.
use mathlib.Core.Bool.{Bool}
use mathlib.Core.List.{List}
use mathlib.Core.Path.{◌≡◌, refl, ap, ◌∙◌}
use Prim.Native.Nat.{ℕ, suc, ◌+◌, ◌-◌, ◌*◌, ◌≤◌, ◌<◌}
use native.Mathlib.Nat.{add-zero}
use native.Mathlib.Numerals.{lt_of_le_of_ne}
use native.Mathlib.Omega.{arith}
use borrow.Author.Tests.{eq-eqb, ne_eqb, eqb-true, eqb-false}
use lib.Dec.{eqb}
use lib.ListN.{get_or}
use Rattle.laws.proofs.Tests.{by-test}
use Rattle.meaning.specs.Bytes.{when, is_digit}
use Rattle.meaning.specs.StampGrammar.{Ruled, reads, halts, Grammar, onward, ◌then◌, ◌before◌, done, one_byte, is_colon, digits_from, time_hour, time_minute}
use Rattle.numerals.specs.Numbers.{pair_at}
use Rattle.stamps.proofs.shape.Wrongs.{wrong-later, wrong-here, wrong-most, wrong-beyond, wrong-within}
use Rattle.stamps.specs.Shape.{takes, first_wrong}

-- the rule at a place begins with k bytes that are held to the shape from i on, and behind them it gives `rest`
pub record Begins {A : Type 0} (rule : Grammar A) (k i at : ℕ) (s : List ℕ) (rest : Ruled A) : Type 0 where
  pub is : rule s at ≡ when (eqb (first_wrong k i at s) (at + k)) rest (halts (first_wrong k i at s))

-- where all of them are taken, and where one is not
module _ {A : Type 0} {rule : Grammar A} {k i at : ℕ} {s : List ℕ} {rest : Ruled A} (b : Begins rule k i at s rest) where
  pub all-taken : first_wrong k i at s ≡ at + k → rule s at ≡ rest
  all-taken e = b.is ∙ rw (eq-eqb (first_wrong k i at s) (at + k) e)

  pub not_taken : (first_wrong k i at s ≡ at + k → ⊥) → rule s at ≡ halts (first_wrong k i at s)
  not_taken e = b.is ∙ rw (ne_eqb (first_wrong k i at s) (at + k) e)

-- one behind another
pub begins-then : {A B : Type 0} {rule : Grammar A} (next : A → Grammar B) {k i at : ℕ} (m : ℕ) {s : List ℕ} {a : A} {end : ℕ} {rest : Ruled B}
    → Begins rule k i at s (reads a end) → end ≡ at + k → k ≤ m → Begins (next a) (m - k) (i + k) end s rest
    → Begins (rule then next) m i at s rest
begins-then next {k = k} {i = i} {at = at} m {s = s} {end = end} first place few second =
    by-test (eqb (first_wrong k i at s) (at + k))
    (λ e.
    let all = eqb-true (first_wrong k i at s) (at + k) e in
    let same : first_wrong m i at s ≡ first_wrong (m - k) (i + k) end s = wrong-beyond k m i at s all few ∙ rw place in
    let ends : at + m ≡ end + (m - k) = omega arith in
    record { is = ap (λ r. onward r next s) (all-taken first all) ∙ second.is ∙ rw (same, ends) })
    (λ e.
    let other = eqb-false (first_wrong k i at s) (at + k) e in
    let some : first_wrong k i at s < at + k = lt_of_le_of_ne (wrong-most k i at s) other in
    let same : first_wrong m i at s ≡ first_wrong k i at s = wrong-within k m i at s some few in
    record {
      is =
          ap (λ r. onward r next s) (not_taken first other)
          ∙ rw (same, ne_eqb (first_wrong k i at s) (at + m) (λ q. omega arith));
    })

-- any rule behind them
pub begins-on : {A B : Type 0} {rule : Grammar A} (next : A → Grammar B) {k i at : ℕ} {s : List ℕ} {rest : Ruled A}
    → Begins rule k i at s rest → Begins (rule then next) k i at s (onward rest next s)
begins-on next {k = k} {i = i} {at = at} {s = s} first =
    by-test (eqb (first_wrong k i at s) (at + k))
    (λ e. record { is = ap (λ r. onward r next s) first.is ∙ rw e })
    (λ e. record { is = ap (λ r. onward r next s) first.is ∙ rw e })

-- nothing more
pub begins-done : {A : Type 0} (a : A) (i at : ℕ) (s : List ℕ) → Begins (done a) 0 i at s (reads a at)
unfolding first_wrong
begins-done a i at s = record { is = rw (add-zero at, eq-eqb at at refl) }

-- a byte, two digits, four digits; and 05:30, of the time and of the offset

pub begins-byte : (test : ℕ → Bool) (i at end : ℕ) (s : List ℕ) → end ≡ at + 1 → ((b : ℕ) → takes i b ≡ test b)
    → Begins (one_byte test) 1 i at s (reads (get_or s at 0) end)
unfolding first_wrong
begins-byte test i at end s place same =
    let next : suc at ≡ end = omega arith in
    by-test (test (get_or s at 0))
    (λ e.
    let w : first_wrong 1 i at s ≡ suc at = wrong-later 0 i at s (same (get_or s at 0) ∙ e) in
    record { is = rw (e, w, next, eq-eqb end (at + 1) place) })
    (λ e.
    let w : first_wrong 1 i at s ≡ at = wrong-here 0 i at s (same (get_or s at 0) ∙ e) in
    record { is = rw (e, w, ne_eqb at (at + 1) (λ q. omega arith)) })

-- the digits of the shape from i on
abbrev Digit : ℕ → Type 0
Digit i = (b : ℕ) → takes i b ≡ is_digit b

pub begins-pair : (i at end : ℕ) (s : List ℕ) → end ≡ at + 2 → Digit i → Digit (i + 1)
    → Begins (digits_from 2 0) 2 i at s (reads (pair_at at s) end)
unfolding digits_from
begins-pair i at end s place first second =
    let both' = begins-then (λ b. digits_from 1 (0 * 10 + (b - 48))) 2 (begins-byte is_digit i at (at + 1) s refl first) refl (omega arith) (begins-on (λ b. digits_from 0 ((0 * 10 + (get_or s at 0 - 48)) * 10 + (b - 48))) (begins-byte is_digit (i + 1) (at + 1) end s (omega arith) second)) in
    let v : (0 * 10 + (get_or s at 0 - 48)) * 10 + (get_or s (at + 1) 0 - 48) ≡ pair_at at s = omega arith in
    rw v at both'

pub begins-hour : (at end : ℕ) (s : List ℕ) {A : Type 0} (next : ℕ → ℕ → Grammar A) (m : ℕ) {rest : Ruled A} → end ≡ at + 5 → 5 ≤ m
    → Begins (next (pair_at at s) (pair_at (at + 3) s)) (m - 5) 16 end s rest
    → Begins (time_hour then λ h. one_byte is_colon before time_minute then λ n. next h n) m 11 at s rest
unfolding takes
begins-hour at end s next m place few last =
    let left : m - 5 ≡ m - 2 - 1 - 2 = omega arith in
    let h = pair_at at s in
    begins-then (λ h. one_byte is_colon before time_minute then λ n. next h n) m (begins-pair 11 at (at + 2) s refl (λ b. refl) (λ b. refl)) refl (omega arith)
    (begins-then (λ _. time_minute then λ n. next h n) (m - 2) (begins-byte is_colon 13 (at + 2) (at + 3) s (omega arith) (λ b. refl)) (omega arith) (omega arith)
    (begins-then (λ n. next h n) (m - 2 - 1) (begins-pair 14 (at + 3) end s (omega arith) (λ b. refl) (λ b. refl)) (omega arith) (omega arith)
    (rw left at last)))
