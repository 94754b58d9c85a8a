-- Laws of the readers that reading is made of: what each step gives where it goes on and where it stops, and one reader
-- after the other. Proofs about reading cite these and do not open `skip` or `take_number`.
use Rattle.std.specs.Prelude.{Ok}
use mathlib.Core.Bool.{Bool, true, false}
use mathlib.Core.List.{List, [], ◌∷◌, ◌++◌}
use mathlib.Core.Option.{Option, none, some}
use mathlib.Core.Path.{◌≡◌, refl, ap, ◌∙◌}
use Prim.Native.Nat.{ℕ, zero, suc, ◌+◌, ◌≤◌, ◌<◌}
use native.Mathlib.Nat.{eq-or-lt_of_le}
use mathlib.Core.Logic.{◌⊎◌, inl, inr}
use native.Mathlib.Omega.{arith}
use lib.Dec.{eqb}
use lib.ListN.{length, take, drop, length-append}
use lib.Seq.{drop-append_seam}
use borrow.Author.Tests.{eqb-true, eq-eqb, lt-ltb, le-ltb}
use Rattle.meaning.specs.Answers.{rest_check}
use Rattle.meaning.specs.Bytes.{digit_at, plus}
use Rattle.meaning.specs.Numerals.{Signed, all_digits, plus_first, number_of}
use Rattle.meaning.specs.Readers.{got, stopped, Reader, behind, ◌>>=◌, skip, first_differing, same_by, same, take_number, reach}
use Rattle.meaning.specs.declared.Numeral.{Numeral}
use Rattle.meaning.specs.declared.Numeral.TheVariants.{Count, Year}
use Rattle.meaning.specs.declared.Trouble.{Trouble}
use Rattle.meaning.specs.declared.Trouble.TheVariants.{TooFew}
use Rattle.laws.proofs.Tests.{by-test}

-- one reader after the other

pub goes_on : {A B : Type 0} (first : Reader A) (next : A → Reader B) (s : List ℕ) {n : ℕ} {a : A} → first s ≡ got n a
    → (first >>= next) s ≡ behind n (next a (drop n s))
goes_on first next s e = rw e

pub stops : {A B : Type 0} (first : Reader A) (next : A → Reader B) (s : List ℕ) {why : Trouble} {i : ℕ}
    → first s ≡ stopped why i → (first >>= next) s ≡ stopped why i
stops first next s e = rw e

-- two readers, each on a text of its own, before r
pub in-turn : {A B : Type 0} (first : Reader A) (next : A → Reader B) (t u r : List ℕ) (a : A) (b : B)
    → first (t ++ (u ++ r)) ≡ got (length t) a → next a (u ++ r) ≡ got (length u) b
    → (first >>= next) (t ++ (u ++ r)) ≡ got (length t + length u) b
in-turn first next t u r a b e d = rw (e, drop-append_seam, d)

-- the steps

pub skip_goes_on : (k : ℕ) (s : List ℕ) → k ≤ length s → skip k s ≡ got k tt
unfolding skip
skip_goes_on k s h = rw (le-ltb (length s) k h)

pub skip-stops : (k : ℕ) (s : List ℕ) → length s < k → skip k s ≡ stopped TooFew 0
unfolding skip
skip-stops k s h = rw (lt-ltb (length s) k h)

-- comparing: a byte that is the one that stands there, and another one
module _ (i a : ℕ) (w : List ℕ) (b : ℕ) (s : List ℕ) where
  compared : Bool → Option ℕ
  compared c = elim c as (λ x. Option ℕ) [ true ↦ first_differing (suc i) w s | false ↦ some i ]

  pub same_byte : eqb a b ≡ true → first_differing i (a ∷ w) (b ∷ s) ≡ first_differing (suc i) w s
  unfolding first_differing compared
  same_byte e = ap compared e

  pub other_byte : eqb a b ≡ false → first_differing i (a ∷ w) (b ∷ s) ≡ some i
  unfolding first_differing compared
  other_byte e = ap compared e

pub no_byte : (i : ℕ) (s : List ℕ) → first_differing i [] s ≡ none
unfolding first_differing
no_byte i s = refl

no_difference : (i : ℕ) (w r : List ℕ) → first_differing i w (w ++ r) ≡ none
no_difference i [] r = no_byte i r
no_difference i (b ∷ w) r = same_byte i b w b (w ++ r) (eq-eqb b b refl) ∙ no_difference (suc i) w r

pub same-stops : (w s : List ℕ) → length s < length w → same w s ≡ stopped TooFew 0
unfolding same
same-stops w s h = rw (lt-ltb (length s) (length w) h)

pub same-compares : (w s : List ℕ) → length w ≤ length s → same w s ≡ same_by (length w) (first_differing 0 w s)
unfolding same
same-compares w s h = rw (le-ltb (length s) (length w) h)

-- bytes that are there compare as the same
pub same-goes-on : (w r : List ℕ) → same w (w ++ r) ≡ got (length w) tt
same-goes-on w r = same-compares w (w ++ r) (simp length-append (omega arith)) ∙ rw (no_difference 0 w r)

-- a number has no plus in front
plus-is-none : (kind : Numeral) (s : List ℕ) → number_of kind (plus ∷ s) ≡ none
unfolding number_of all_digits
plus-is-none Count s = refl
plus-is-none Year s = refl

number-bare : (kind : Numeral) (s : List ℕ) {n : Signed} → number_of kind s ≡ some n → plus_first s ≡ false
number-bare kind [] e = refl
number-bare kind (b ∷ s) e =
    by-test (eqb b plus)
    (λ p. let none' = rw (eqb-true b plus p, plus-is-none kind s) at e in absurd (let z : ◌≡◌ {A = ℕ} 0 1 = cc in omega arith)) (λ p. p)

pub take-goes-on : (kind : Numeral) (k : ℕ) (s : List ℕ) (n : Signed) → k ≤ length s → number_of kind (take k s) ≡ some n
    → take_number kind k s ≡ got k n
unfolding take_number
take-goes-on kind k s n h e = rw (le-ltb (length s) k h, number-bare kind (take k s) e, e)

pub take-stops : (kind : Numeral) (k : ℕ) (s : List ℕ) → length s < k → take_number kind k s ≡ stopped TooFew 0
unfolding take_number
take-stops kind k s h = rw (lt-ltb (length s) k h)

-- how far a greedy number goes

pub reach-on : (more i : ℕ) (s : List ℕ) → digit_at i s ≡ true → reach (suc more) i s ≡ reach more (suc i) s
unfolding reach
reach-on more i s e = rw (e, reach)

pub reach-ends : (more i : ℕ) (s : List ℕ) → digit_at i s ≡ false → reach (suc more) i s ≡ i
unfolding reach
reach-ends more i s e = rw (e, reach)

-- to the end of n digits, where that is as far as it may go or no digit follows them
pub reach-exact : (more i : ℕ) (s : List ℕ) (n : ℕ) → i ≤ n → n ≤ i + more → ((j : ℕ) → j < n → digit_at j s ≡ true)
    → (n < i + more → digit_at n s ≡ false) → reach more i s ≡ n
unfolding reach
reach-exact zero i s n h k d e = omega arith
reach-exact (suc more) i s n h k d e = go (eq-or-lt_of_le h)
    (λ l. reach-exact more (suc i) s n l (omega arith) d (λ j. e (omega arith)))
  where
    go : (i ≡ n) ⊎ (i < n) → (i < n → reach more (suc i) s ≡ n) → reach (suc more) i s ≡ n
    go (inl q) ih =
        let no_digit : digit_at i s ≡ false = rw (← q) at (e (omega arith)) in
        reach-ends more i s no_digit ∙ q
    go (inr l) ih = reach-on more i s (d i l) ∙ ih l

-- where no byte remains, no reading leaves any
pub none_left : (strict : Bool) (at : ℕ) (s : List ℕ) → length s ≤ 0 → rest_check strict at s ≡ Ok tt
none_left true at s h = rw (le-ltb 0 (length s) h)
none_left false at s h = refl
