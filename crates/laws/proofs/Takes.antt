-- How many bytes a reader takes where it goes on, whatever they give. By this a failing part is told from its own text, and a text may be
-- cut behind what was taken.
use mathlib.Core.Bool.{Bool, true, false}
use mathlib.Core.List.{List, ◌++◌}
use mathlib.Core.Option.{Option, none, some}
use mathlib.Core.Path.{◌≡◌, refl}
use Prim.Native.Nat.{ℕ, zero, suc, ◌+◌, ◌≤◌, ◌<◌}
use native.Mathlib.Omega.{arith}
use lib.Dec.{ltb}
use lib.ListN.{length, take, drop}
use lib.Seq.{drop-append_seam}
use borrow.Author.Tests.{ltb-true, ltb-false}
use Rattle.meaning.specs.Bytes.{digit_at}
use Rattle.meaning.specs.Numerals.{Signed, plus_first, number_of}
use Rattle.meaning.specs.Readers.{Got, got, stopped, Reader, behind, go_on, ◌>>=◌, done, skip, first_differing, same_by, same, taken_number, take_number, take_count, take_year, reach}
use Rattle.meaning.specs.Reading.{colon_length, passed, taken_year, take_group, taken_unit}
use Rattle.meaning.specs.declared.Numeral.{Numeral}
use Rattle.meaning.specs.declared.Numeral.TheVariants.{Count, Year}
use Rattle.meaning.specs.declared.ParseUnit.{ParseUnit}
use Rattle.laws.proofs.Readers.{reach-on, reach-ends}
use Rattle.laws.proofs.Tests.{by-test, when-is}

abbrev pub Takes : {A : Type 0} → ℕ → Got A → Type 0
Takes k (got n a) = n ≡ k
Takes k (stopped why i) = Unit

pub takes-got : {A : Type 0} (k : ℕ) {x : Got A} {n : ℕ} {a : A} → Takes k x → x ≡ got n a → n ≡ k
takes-got k h e = rw e at h

pub takes_skip : (k : ℕ) (s : List ℕ) → Takes k (skip k s)
unfolding skip
takes_skip k s = when-is (Takes k) (ltb (length s) k) (λ _. tt) (λ _. refl)

same_takes : (k : ℕ) (differs : Option ℕ) → Takes k (same_by k differs)
same_takes k none = refl
same_takes k (some i) = tt

pub takes_same : (w s : List ℕ) → Takes (length w) (same w s)
unfolding same
takes_same w s =
    when-is (Takes (length w)) (ltb (length s) (length w)) (λ _. tt) (λ _. same_takes (length w) (first_differing 0 w s))

number-takes : (k : ℕ) (n : Option Signed) → Takes k (taken_number k n)
number-takes k none = tt
number-takes k (some n) = refl

pub takes-number : (kind : Numeral) (k : ℕ) (s : List ℕ) → Takes k (take_number kind k s)
unfolding take_number
takes-number kind k s =
    when-is (Takes k) (ltb (length s) k) (λ _. tt)
    (λ _. when-is (Takes k) (plus_first (take k s)) (λ _. tt) (λ _. number-takes k (number_of kind (take k s))))

-- one reader after the other

takes-behind : {B : Type 0} (n k : ℕ) (x : Got B) → Takes k x → Takes (n + k) (behind n x)
takes-behind n k (got m b) h = omega arith
takes-behind n k (stopped why i) h = tt

goes-on-takes : {A B : Type 0} (j k : ℕ) (x : Got A) (next : A → Reader B) (s : List ℕ) → Takes j x
    → ((n : ℕ) (a : A) → x ≡ got n a → Takes k (next a (drop n s))) → Takes (j + k) (go_on x next s)
goes-on-takes j k (got n a) next s h rest = rw (← h) (takes-behind n k (next a (drop n s)) (rest n a refl))
goes-on-takes j k (stopped why i) next s h rest = tt

pub takes-both : {A B : Type 0} (j k : ℕ) (first : Reader A) (next : A → Reader B) (s : List ℕ) → Takes j (first s)
    → ((n : ℕ) (a : A) → first s ≡ got n a → Takes k (next a (drop n s))) → Takes (j + k) ((first >>= next) s)
takes-both j k first next s h rest = goes-on-takes j k (first s) next s h rest

-- a reader that takes just t, and the next on what is behind it
pub takes-then : {A B : Type 0} (k : ℕ) (first : Reader A) (next : A → Reader B) (t r : List ℕ) {a : A} → first (t ++ r) ≡ got (length t) a
    → Takes k (next a r) → Takes (length t + k) ((first >>= next) (t ++ r))
takes-then k first next t r {a} e h = rw (e, drop-append_seam) (takes-behind (length t) k (next a r) h)

-- what a reader gives is turned into something else
pub takes-done : {A B : Type 0} (k : ℕ) (first : Reader A) (g : A → B) (s : List ℕ) → Takes k (first s)
    → Takes k ((first >>= λ a. done (g a)) s)
takes-done k first g s h =
    let e : k + 0 ≡ k = omega arith in
    rw e at (takes-both k 0 first (λ a. done (g a)) s h (λ n a _. refl))

-- numbers, years and bytes that are passed, of k bytes; a group of a zone

pub takes_count : (k : ℕ) (s : List ℕ) → Takes k (take_count k s)
takes_count k s = takes-done k (take_number Count k) _ s (takes-number Count k s)

pub takes-unit : (u : ParseUnit) (z k : ℕ) (s : List ℕ) → Takes k (taken_unit u z k s)
takes-unit u z k s = takes-done k (take_count k) _ s (takes_count k s)

pub takes-year : (k : ℕ) (s : List ℕ) → Takes k (take_year k s)
takes-year k s = takes-done k (take_number Year k) _ s (takes-number Year k s)

pub takes-full-year : (k : ℕ) (s : List ℕ) → Takes k (taken_year k s)
takes-full-year k s = takes-done k (take_year k) _ s (takes-year k s)

pub takes-passed : (k : ℕ) (s : List ℕ) → Takes k (passed k s)
takes-passed k s = takes-done k (skip k) _ s (takes_skip k s)

pub takes-group : (colon : Bool) (s : List ℕ) → Takes (colon_length colon + 2) (take_group colon s)
takes-group colon s =
    takes-both (colon_length colon) 2 (skip (colon_length colon)) (λ _. take_count 2) s (takes_skip (colon_length colon) s) (λ n a _. takes_count 2 (drop n s))

-- how far a greedy number goes

pub reach-bounds : (more i : ℕ) (s : List ℕ) → (i ≤ reach more i s) × (reach more i s ≤ i + more)
unfolding reach
reach-bounds zero i s = (omega arith, omega arith)
reach-bounds (suc more) i s = go (digit_at i s) refl (reach-bounds more (suc i) s)
  where
    go : (t : Bool) → digit_at i s ≡ t → (suc i ≤ reach more (suc i) s) × (reach more (suc i) s ≤ suc i + more)
        → (i ≤ reach (suc more) i s) × (reach (suc more) i s ≤ i + suc more)
    go true e ih = rw (reach-on more i s e) (omega arith, omega arith)
    go false e ih = rw (reach-ends more i s e) (omega arith, omega arith)

-- past n digits, where one more follows and it may go further
pub reach-past : (more i : ℕ) (s : List ℕ) (n : ℕ) → i ≤ n → n < i + more → ((j : ℕ) → j ≤ n → digit_at j s ≡ true)
    → n < reach more i s
reach-past zero i s n h k all = absurd (omega arith)
reach-past (suc more) i s n h k all =
    rw (reach-on more i s (all i h))
    (by-test (ltb i n) (λ e. reach-past more (suc i) s n (ltb-true i n e) (omega arith) all)
    (λ e. omega (arith, ltb-false i n e, (reach-bounds more (suc i) s).0)))
