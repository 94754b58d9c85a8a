-- What the own change of a part does to its need and to what it can begin with: it is made just where the part comes back with
-- nothing behind it, after it spaces are enough, and it does not change the first two bytes' chance of a digit.
use mathlib.Core.Bool.{Bool, true, false}
use mathlib.Core.List.{List, [], ◌∷◌}
use mathlib.Core.Logic.{◌⊎◌, inl, inr, ⊎_elim}
use mathlib.Core.Path.{◌≡◌, refl, sym, ap, ◌∙◌}
use Prim.Native.Char.{code}
use Prim.Native.Nat.{ℕ, ◌≤◌}
use native.Mathlib.Omega.{arith}
use lib.Dec.{eqb, leb}
use lib.ListN.{drop}
use borrow.Author.Tests.{eqb-true, eqb-false, eq-eqb, leb-true, leb-false}
use Rattle.meaning.specs.Answers.{within}
use Rattle.meaning.specs.Bytes.{when, both}
use Rattle.meaning.specs.Mending.{mended_count, mend_part, own_change}
use Rattle.meaning.specs.Rules.{Row, ◌is◌, among, Otherwise, always, fixed_year, pick, Symbol, rule_of, role_among, era, quarter, month, week, day, day_of_year, weekday, time_symbols, date_role, time_role, or_else, role_of}
use Rattle.meaning.specs.Splitting.{Content, run, quotes, quoted, unclosed}
use Rattle.meaning.specs.Writing.{Step, run_step, ends_in_quote, step_of}
use Rattle.meaning.specs.declared.Edition.{Edition}
use Rattle.meaning.specs.declared.Edition.TheVariants.{First, Second}
use Rattle.meaning.specs.declared.Pair.TheVariants.{Full}
use Rattle.meaning.specs.declared.Role.{Role}
use Rattle.meaning.specs.declared.Role.TheVariants as role
use Rattle.meaning.specs.declared.Rule.{Rule}
use Rattle.laws.proofs.PartsApart.{Held}
use Rattle.laws.proofs.Table.{RoleHas, among-has, or-else-has}
use Rattle.laws.proofs.Tests.{by-test, true-is-not-false, both_true, every, when-is}
use Rattle.trust.specs.Ahead.{step_first, step_second}
use Rattle.trust.specs.Check.{meets}
use Rattle.trust.specs.Needs.{rule_need, step_need}
use Rattle.trust.specs.declared.Need.{Need}
use Rattle.trust.specs.declared.Need.TheVariants.{Nothing, NoDigit, NoSecondDigit, Broken, LosesYear}

-- a need that spaces can meet
abbrev pub mendable : Need → Bool
mendable Nothing = true
mendable NoDigit = true
mendable NoSecondDigit = true
mendable Broken = false
mendable LosesYear = false

-- what is the same or not after the own change

abbrev pub is_same : Edition → Content → Bool
is_same edition c = eqb (own_change edition 0 c).before (own_change edition 0 c).after

closing_same : (t : Bool) → eqb 0 (when t 1 0) ≡ true → t ≡ false
closing_same true e = absurd (let z = eqb-true 0 1 e in omega arith)
closing_same false e = refl

pub same-part : (edition : Edition) (c : Content) → is_same edition c ≡ true → mend_part edition c ≡ c
unfolding own_change mend_part
same-part edition (run b n) e = ap (run b) (sym (eqb-true n (mended_count edition b n) e))
same-part edition (quotes n) e = refl
same-part edition (quoted s) e = refl
same-part edition (unclosed s) e = rw (closing_same (ends_in_quote s) e)

eqb_same : {A : Type 0} (n : ℕ) → eqb n n ≡ false → A
eqb_same n e = absurd (eqb-false n n e refl)

-- The own changes are these five, and every other part stays.

five-or-six : (n : ℕ) → within 5 6 n ≡ true → (n ≡ 5) ⊎ (n ≡ 6)
five-or-six n e =
    let t = both_true (leb 5 n) (leb n 6) e in
    let low = leb-true 5 n t.0 in
    let high = leb-true n 6 t.1 in
    by-test (eqb n 5) (λ d. inl (eqb-true n 5 d)) (λ d. inr (let z = eqb-false n 5 d in omega arith))

module _ (edition : Edition) (P : Content → Content → Type 0) (same' : (c : Content) → is_same edition c ≡ true → P c c)
    (month' : edition ≡ First → P (run (code "M") 1) (run (code "M") 2)) (two' : P (run (code "y") 2) (run (code "y") 4))
    (five' : P (run (code "y") 5) (run (code "y") 7)) (six' : P (run (code "y") 6) (run (code "y") 7))
    (open' : (s : List ℕ) → ends_in_quote s ≡ true → P (unclosed s) (quoted s)) where
  kept : (c : Content) → is_same edition c ≡ true → P c (mend_part edition c)
  kept c e = rw (same-part edition c e) (same' c e)

  by-month : (n : ℕ) → P (run (code "M") n) (mend_part edition (run (code "M") n))
  by-month n = go edition refl
    where
      go : (e : Edition) → edition ≡ e → P (run (code "M") n) (mend_part edition (run (code "M") n))
      go First f =
          by-test (eqb n 1) (λ d. rw (eqb-true n 1 d, f) (unfold mend_part in month' f))
          (λ d. kept (run (code "M") n) (rw f (unfold own_change mended_count in (rw d (eq-eqb n n refl)))))
      go Second f = kept (run (code "M") n) (rw f (unfold own_change mended_count in (eq-eqb n n refl)))

  by-year : (n : ℕ) → P (run (code "y") n) (mend_part edition (run (code "y") n))
  by-year n =
      by-test (eqb n 2) (λ d. rw (eqb-true n 2 d) (unfold mend_part in two'))
      (λ d.
      by-test (within 5 6 n)
      (λ w. ⊎_elim (λ k. rw k (unfold mend_part in five')) (λ k. rw k (unfold mend_part in six')) (five-or-six n w))
      (λ w. kept (run (code "y") n) (unfold own_change mended_count in (rw (d, w) (eq-eqb n n refl)))))

  pub by-change : (c : Content) → P c (mend_part edition c)
  by-change (run b n) =
      by-test (eqb b (code "M")) (λ d. rw (eqb-true b (code "M") d) (by-month n))
      (λ d.
      by-test (eqb b (code "y")) (λ y. rw (eqb-true b (code "y") y) (by-year n))
      (λ y. kept (run b n) (unfold own_change mended_count in (rw (d, y) (eq-eqb n n refl)))))
  by-change (quotes n) = kept (quotes n) (unfold own_change in refl)
  by-change (quoted s) = kept (quoted s) (unfold own_change in refl)
  by-change (unclosed s) =
      by-test (ends_in_quote s) (λ d. unfold mend_part in (rw d (open' s d))) (λ d. kept (unclosed s) (unfold own_change in (rw d)))

-- In a part that is changed, the check finds a need that nothing meets.

pub changed-fails : (edition : Edition) (c : Content) → is_same edition c ≡ false → mendable (step_need edition (step_of Full c)) ≡ false
unfolding step_of step_need
changed-fails edition =
    by-change edition (λ c d. is_same edition c ≡ false → mendable (step_need edition (step_of Full c)) ≡ false)
    (λ c e h. true-is-not-false (sym e ∙ h)) (λ f h. rw f) (λ h. refl) (λ h. refl) (λ h. refl) (λ s e h. rw e)

-- what fails so, nothing behind it mends
pub never_met : (need : Need) (ss : List Step) → mendable need ≡ false → meets need ss ≡ false
unfolding meets
never_met Nothing ss e = true-is-not-false e
never_met NoDigit ss e = true-is-not-false e
never_met NoSecondDigit ss e = true-is-not-false e
never_met Broken ss e = refl
never_met LosesYear ss e = refl

-- After the own change, spaces are enough. Of the symbols but M and y, each rule's need can be met in either edition.

module _ (edition : Edition) where
  abbrev Mendable : Rule → Type 0
  Mendable rule = mendable (rule_need edition rule) ≡ true

  abbrev row_mendable : Row → Bool
  row_mendable (counts is rule) = mendable (rule_need edition rule)

  abbrev otherwise_mendable : Otherwise → Bool
  otherwise_mendable (always rule) = mendable (rule_need edition rule)
  otherwise_mendable fixed_year = false

  pick-mendable : (c : ℕ) (rows : List Row) (o : Otherwise) → every row_mendable rows ≡ true → otherwise_mendable o ≡ true → Mendable (pick c rows o)
  unfolding pick every
  pick-mendable c [] (always rule) h k = k
  pick-mendable c [] fixed_year h k = true-is-not-false (sym k)
  pick-mendable c (counts is rule ∷ rows) o h k =
      let t = both_true (row_mendable (counts is rule)) (every row_mendable rows) h in
      when-is Mendable (among c counts) (λ e. t.0) (λ e. pick-mendable c rows o t.1 k)

  abbrev symbol_mendable : Symbol → Bool
  symbol_mendable symbol = both (every row_mendable symbol.rows) (otherwise_mendable symbol.otherwise)

  symbol-mendable : (c : ℕ) (symbol : Symbol) → symbol_mendable symbol ≡ true → Mendable (rule_of symbol c)
  unfolding rule_of
  symbol-mendable c symbol h =
      let t = both_true (every row_mendable symbol.rows) (otherwise_mendable symbol.otherwise) h in
      pick-mendable c symbol.rows symbol.otherwise t.0 t.1

  role-mendable : (r : Role) (b n : ℕ) → RoleHas Mendable r → mendable (step_need edition (run_step r b n)) ≡ true
  unfolding step_need
  role-mendable role.Literal b n h = refl
  role-mendable (role.Symbol rule) b n h = h

abbrev step_of_run : ℕ → ℕ → Step
step_of_run b n = step_of Full (run b n)

abbrev other_symbols : List Symbol
other_symbols = era ∷ quarter ∷ week ∷ day ∷ day_of_year ∷ weekday ∷ []

other-role : (b n : ℕ) → eqb b (code "M") ≡ false → eqb b (code "y") ≡ false → role_of Full b n ≡ or_else (role_among other_symbols b n) (time_role b n)
unfolding role_of date_role role_among
other-role b n m y = rw (m, y)

others-mendable : (edition : Edition) → (every (symbol_mendable edition) other_symbols ≡ true) × (every (symbol_mendable edition) time_symbols ≡ true)
unfolding every rule_need
others-mendable First = (refl, refl)
others-mendable Second = (refl, refl)

other-mendable : (edition : Edition) (b n : ℕ) → eqb b (code "M") ≡ false → eqb b (code "y") ≡ false → mendable (step_need edition (step_of_run b n)) ≡ true
unfolding step_of time_role
other-mendable edition b n m y =
    let P = Mendable edition in
    let t = others-mendable edition in
    let has = symbol-mendable edition n in
    rw (other-role b n m y)
    (role-mendable edition (or_else (role_among other_symbols b n) (time_role b n)) b n
    (or-else-has P n (symbol_mendable edition) has (role_among other_symbols b n) (time_role b n)
    (among-has P n (symbol_mendable edition) has other_symbols t.0 b) (among-has P n (symbol_mendable edition) has time_symbols t.1 b)))

month-mendable : (edition : Edition) (n : ℕ) → mendable (step_need edition (step_of_run (code "M") (mended_count edition (code "M") n))) ≡ true
unfolding mended_count step_of step_need
month-mendable First n =
    by-test (eqb n 1) (λ d. rw d)
    (λ d. rw (d, d) (pick-mendable First n (drop 1 month.rows) month.otherwise (unfold every rule_need in refl) (unfold rule_need in refl)))
month-mendable Second n = pick-mendable Second n month.rows month.otherwise (unfold every rule_need in refl) (unfold rule_need in refl)

from-four : (n : ℕ) → 1 ≤ n → (n ≡ 1 → ⊥) → (n ≡ 2 → ⊥) → (n ≡ 3 → ⊥) → 4 ≤ n
from-four n h a b c = omega (arith, a, b, c)

from-seven : (n : ℕ) → 4 ≤ n → (n ≡ 4 → ⊥) → within 5 6 n ≡ false → 7 ≤ n
from-seven n h a w =
    let five : n ≡ 5 → ⊥ = λ e. true-is-not-false (rw e at w) in
    let six : n ≡ 6 → ⊥ = λ e. true-is-not-false (rw e at w) in
    omega (arith, a, five, six)

-- y once, three or four times, or seven times and more
year-left : (edition : Edition) (n : ℕ) → 1 ≤ n → eqb n 2 ≡ false → within 5 6 n ≡ false → mendable (step_need edition (step_of_run (code "y") n)) ≡ true
unfolding step_of step_need
year-left edition n h d w =
    let not-two = eqb-false n 2 d in
    by-test (eqb n 1) (λ e. rw (eqb-true n 1 e))
    (λ e.
    by-test (eqb n 3) (λ f. rw (eqb-true n 3 f))
    (λ f.
    by-test (eqb n 4) (λ g. rw (eqb-true n 4 g))
    (λ g.
    by-test (leb 7 n) (λ l. rw (d, e, f, g) (unfold rule_need in (rw l)))
    (λ l. absurd (let low = from-four n h (eqb-false n 1 e) not-two (eqb-false n 3 f) in let high = from-seven n low (eqb-false n 4 g) w in omega (arith, high, leb-false 7 n l))))))

year-mendable : (edition : Edition) (n : ℕ) → 1 ≤ n → mendable (step_need edition (step_of_run (code "y") (mended_count edition (code "y") n))) ≡ true
unfolding mended_count
year-mendable edition n h =
    by-test (eqb n 2) (λ d. rw d (unfold step_of step_need in refl))
    (λ d. by-test (within 5 6 n) (λ w. rw (d, w) (unfold step_of step_need in refl)) (λ w. rw (d, w) (year-left edition n h d w)))

pub mended-mendable : (edition : Edition) (c : Content) → Held c → mendable (step_need edition (step_of Full (mend_part edition c))) ≡ true
unfolding mend_part
mended-mendable edition (run b n) h =
    by-test (eqb b (code "M")) (λ d. rw (eqb-true b (code "M") d) (month-mendable edition n))
    (λ d.
    by-test (eqb b (code "y")) (λ y. rw (eqb-true b (code "y") y) (year-mendable edition n h.0))
    (λ y. let same : mended_count edition b n ≡ n = unfold mended_count in (rw (d, y)) in rw same (other-mendable edition b n d y)))
mended-mendable edition (quotes n) h = unfold step_of step_need in refl
mended-mendable edition (quoted s) h = unfold step_of step_need in refl
mended-mendable edition (unclosed s) h =
    by-test (ends_in_quote s) (λ d. rw d (unfold step_of step_need in refl)) (λ d. rw d (unfold step_of step_need in (rw d)))

-- It does not change what the part can begin with.

pub same_first : (edition : Edition) (c : Content) → step_first (step_of Full (mend_part edition c)) ≡ step_first (step_of Full c)
unfolding step_of step_first
same_first edition =
    by-change edition (λ c d. step_first (step_of Full d) ≡ step_first (step_of Full c)) (λ c e. refl) (λ f. refl) refl refl refl (λ s e. refl)

pub same_second : (edition : Edition) (c : Content) (behind : Bool) → step_second (step_of Full (mend_part edition c)) behind ≡ step_second (step_of Full c) behind
unfolding step_of step_second
same_second edition c behind =
    by-change edition (λ c d. step_second (step_of Full d) behind ≡ step_second (step_of Full c) behind) (λ c e. refl) (λ f. refl) refl refl refl
    (λ s e. refl) c
