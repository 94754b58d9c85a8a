-- Laws of tests: cases on a Bool that keep their equation, `both`, `when`, a test that every entry of a list passes, and
-- the set by which `search` goes through a definition's tests as the code went through its own.
use mathlib.Core.Bool.{Bool, true, false}
use mathlib.Core.List.{List, [], ◌∷◌, ◌++◌}
use mathlib.Core.Path.{◌≡◌, refl, sym, ap, ◌∙◌}
use Prim.Native.Nat.{ℕ, zero, suc, ◌+◌, ◌<◌}
use native.Mathlib.Omega.{arith}
use borrow.Author.Tests.{eq-eqb, ne_eqb, le-leb, lt-leb, lt-ltb, le-ltb, ltb-true, ltb-false}
use lib.Dec.{ltb}
use lib.ListN.{length, get_or, take, replicate, get_or-eq_default}
use Rattle.meaning.specs.Bytes.{when, both}

-- what a branch of the code knows, put into a definition's choices: `returns c = search chosen`
pub ruleset chosen = (eq-eqb, ne_eqb, le-leb, lt-leb, lt-ltb, le-ltb)

-- by cases on a test, with what it says
pub by-test : {P : Type 0} (b : Bool) → (b ≡ true → P) → (b ≡ false → P) → P
by-test true yes' no' = yes' refl
by-test false yes' no' = no' refl

pub true-is-not-false : {A : Type 0} → true ≡ false → A
true-is-not-false e = absurd (let z : ◌≡◌ {A = ℕ} 0 1 = cc in omega arith)

pub both_true : (a b : Bool) → both a b ≡ true → (a ≡ true) × (b ≡ true)
both_true true b h = (refl, h)
both_true false b h = absurd (let z : ◌≡◌ {A = ℕ} 0 1 = cc in omega arith)

pub both-are : (a b : Bool) → a ≡ true → b ≡ true → both a b ≡ true
both-are a b e d = rw (e, d)

pub both-no : (b : Bool) → both b false ≡ false
both-no true = refl
both-no false = refl

-- two tests that each follow from the other
pub same_test : (a b : Bool) → (a ≡ true → b ≡ true) → (b ≡ true → a ≡ true) → a ≡ b
same_test true b h k = sym (h refl)
same_test false true h k = k refl
same_test false false h k = refl

pub when_true : {A : Type 0} {t : Bool} (a b : A) → t ≡ true → when t a b ≡ a
when_true a b e = rw e

pub when_false : {A : Type 0} {t : Bool} (a b : A) → t ≡ false → when t a b ≡ b
when_false a b e = rw e

-- what holds of both choices, each where it is taken, holds of the choice
pub when-is : {A : Type 0} (P : A → Type 0) (t : Bool) {a b : A} → (t ≡ true → P a) → (t ≡ false → P b) → P (when t a b)
when-is P true yes' no' = yes' refl
when-is P false yes' no' = no' refl

-- what passes a test that 0 does not pass is not behind the end of a list
pub passes-there : (test : ℕ → Bool) (l : List ℕ) (i : ℕ) → test 0 ≡ false → test (get_or l i 0) ≡ true → i < length l
passes-there test l i no' yes' =
    by-test (ltb i (length l)) (λ e. ltb-true i (length l) e)
    (λ e. true-is-not-false (sym (rw (get_or-eq_default l 0 (ltb-false i (length l) e)) at yes') ∙ no'))

unfoldable pub every : {A : Type 0} → (A → Bool) → List A → Bool
every test [] = true
every test (a ∷ as') = both (test a) (every test as')

-- one computed test of a whole table, lifted to each entry
pub every-at : {A : Type 0} (test : A → Bool) (l : List A) (d : A) → every test l ≡ true → (i : ℕ) → i < length l → test (get_or l i d) ≡ true
unfolding every
every-at test [] d h i k = absurd (omega arith)
every-at test (a ∷ l) d h zero k = (both_true (test a) (every test l) h).0
every-at test (a ∷ l) d h (suc i) k = every-at test l d (both_true (test a) (every test l) h).1 i (omega arith)

-- of parts of a list, of one entry again and again, and of a weaker test

module _ {A : Type 0} (test : A → Bool) where
  pub every_append : (s t : List A) → every test s ≡ true → every test t ≡ true → every test (s ++ t) ≡ true
  unfolding every
  every_append [] t h k = k
  every_append (a ∷ s) t h k =
      let e = both_true (test a) (every test s) h in
      both-are (test a) (every test (s ++ t)) e.0 (every_append s t e.1 k)

  pub every_take : (n : ℕ) (s : List A) → every test s ≡ true → every test (take n s) ≡ true
  unfolding every
  every_take zero s h = refl
  every_take (suc n) [] h = refl
  every_take (suc n) (a ∷ s) h =
      let e = both_true (test a) (every test s) h in
      both-are (test a) (every test (take n s)) e.0 (every_take n s e.1)

  pub every-again : (n : ℕ) (a : A) → test a ≡ true → every test (replicate n a) ≡ true
  unfolding every
  every-again zero a h = refl
  every-again (suc n) a h = both-are (test a) (every test (replicate n a)) h (every-again n a h)

  pub every-weaker : (weaker : A → Bool) → ((a : A) → test a ≡ true → weaker a ≡ true) → (s : List A) → every test s ≡ true → every weaker s ≡ true
  unfolding every
  every-weaker weaker w [] h = refl
  every-weaker weaker w (a ∷ s) h =
      let e = both_true (test a) (every test s) h in
      both-are (weaker a) (every weaker s) (w a e.0) (every-weaker weaker w s e.1)

-- a table of the values of a function, which antt compares with one that is written out, lifted to each entry
unfoldable pub tabulate : (ℕ → ℕ) → ℕ → ℕ → List ℕ
tabulate f zero i = []
tabulate f (suc n) i = f i ∷ tabulate f n (suc i)

pub tabulated-from : (f : ℕ → ℕ) (n i k : ℕ) → k < n → get_or (tabulate f n i) k 0 ≡ f (i + k)
unfolding tabulate
tabulated-from f zero i k h = absurd (omega arith)
tabulated-from f (suc n) i zero h = ap f (omega arith)
tabulated-from f (suc n) i (suc k) h = tabulated-from f n (suc i) k (omega arith) ∙ ap f (omega arith)

pub tabulated : (f : ℕ → ℕ) (n k : ℕ) → k < n → get_or (tabulate f n 0) k 0 ≡ f k
tabulated f n k h = tabulated-from f n 0 k h ∙ ap f (omega arith)

-- two functions whose tables are the same agree on each entry
pub tables_agree : (f g : ℕ → ℕ) (n k : ℕ) → tabulate f n 0 ≡ tabulate g n 0 → k < n → f k ≡ g k
tables_agree f g n k e h = sym (tabulated f n k h) ∙ ap (λ (l : List ℕ). get_or l k 0) e ∙ tabulated g n k h
