-- Names come back: skipped ones for their length, matched ones and letters since no name begins another; and what the name
-- that is written carries is what its field is.
use Rattle.std.specs.Prelude.{None}
use mathlib.Core.Bool.{true}
use mathlib.Core.List.{List, [], ◌++◌, append-nil}
use mathlib.Core.Path.{◌≡◌, refl, sym, ap, ◌∙◌}
use Prim.Native.Nat.{ℕ, suc, ◌-◌, ◌/◌, ◌≤◌, ◌<◌}
use native.Mathlib.Nat.{add-zero}
use native.Mathlib.Omega.{arith}
use lib.Dec.{eqb, ltb}
use lib.IntN.{pos}
use lib.ListN.{length, get_or, length-append}
use lib.Seq.{take_at}
use borrow.Author.Tests.{eqb-true, ltb-true, ltb-false, lt-ltb, le-ltb}
use Rattle.meaning.specs.Names.{Book, names}
use Rattle.meaning.specs.Readers.{got, first_name, letters, match_name}
use Rattle.meaning.specs.Reading.{value, month_at, period_at, name_carries, period_of, carried_name, read_rule}
use Rattle.meaning.specs.Writing.{second_of_day, period_place, noon_place, place_of, name_text}
use Rattle.meaning.specs.declared.Edition.{Edition}
use Rattle.meaning.specs.declared.Fields.{Fields}
use Rattle.meaning.specs.declared.NameList.{NameList}
use Rattle.meaning.specs.declared.NameList.TheVariants.{EraAbbreviated, EraNarrow, EraWide, QuarterWide, MonthAbbreviated, MonthWide, MonthNarrow, WdayAbbreviated, WdayWide, WdayNarrow, WdayShort, PeriodUpper, PeriodLower, PeriodDotted, PeriodLetter, NoonUpper, NoonLower, NoonDotted, NoonLetter}
use Rattle.meaning.specs.declared.ParseUnit.TheVariants as unit
use Rattle.meaning.specs.declared.Rule.TheVariants.{SkippedName, MatchedName, Letters}
use Rattle.laws.proofs.Fields.{Allowed}
use Rattle.laws.proofs.Names.{all_apart, name-comes-back}
use Rattle.laws.proofs.Readers.{skip_goes_on}
use Rattle.laws.proofs.Tests.{every-at, when-is}
use Rattle.trust.proofs.Table.{same_length}

-- what a name carries

month-carried : (f : Fields) → Allowed f → month_at (f.month - 1) ≡ value unit.Month (pos f.month)
month-carried f h =
    let e : suc (f.month - 1) ≡ f.month = omega arith in
    rw e

module _ (f : Fields) (h : Allowed f) (afternoon : ℕ) where
  morning : (i : ℕ) → i < afternoon → second_of_day f < 43200 → period_at afternoon i ≡ period_of f
  morning i k m =
      let e : second_of_day f / 43200 ≡ 0 = omega arith in
      rw (lt-ltb i afternoon k, e)

  evening : (i : ℕ) → afternoon ≤ i → 43200 ≤ second_of_day f → period_at afternoon i ≡ period_of f
  evening i k m =
      let e : second_of_day f / 43200 ≡ 1 = omega arith in
      rw (le-ltb i afternoon k, e)

  period-carried : (am pm : ℕ) → am < afternoon → afternoon ≤ pm → period_at afternoon (period_place am pm f) ≡ period_of f
  period-carried am pm k l =
      when-is (λ (i : ℕ). period_at afternoon i ≡ period_of f) (ltb (second_of_day f) 43200)
      (λ e. morning am k (ltb-true (second_of_day f) 43200 e)) (λ e. evening pm l (ltb-false (second_of_day f) 43200 e))

  noon-carried : (am midnight pm noon : ℕ) → am < afternoon → midnight < afternoon → afternoon ≤ pm → afternoon ≤ noon
      → period_at afternoon (noon_place am midnight pm noon f) ≡ period_of f
  noon-carried am midnight pm noon k k' l l' =
      when-is (λ (i : ℕ). period_at afternoon i ≡ period_of f) (eqb (second_of_day f) 0)
      (λ e. morning midnight k' (omega (arith, eqb-true (second_of_day f) 0 e)))
      (λ _.
      when-is (λ (i : ℕ). period_at afternoon i ≡ period_of f) (eqb (second_of_day f) 43200)
      (λ e. evening noon l' (omega (arith, eqb-true (second_of_day f) 43200 e))) (λ _. period-carried am pm k l))

pub name-carried : (l : NameList) (f : Fields) → Allowed f → name_carries l (place_of l f) ≡ carried_name l f
unfolding name_carries place_of carried_name
name-carried EraAbbreviated f h = refl
name-carried EraNarrow f h = refl
name-carried EraWide f h = refl
name-carried QuarterWide f h = refl
name-carried MonthAbbreviated f h = month-carried f h
name-carried MonthWide f h = month-carried f h
name-carried MonthNarrow f h = refl
name-carried WdayAbbreviated f h = refl
name-carried WdayWide f h = refl
name-carried WdayNarrow f h = refl
name-carried WdayShort f h = refl
name-carried PeriodUpper f h = period-carried f h 2 1 3 (omega arith) (omega arith)
name-carried PeriodLower f h = period-carried f h 2 0 2 (omega arith) (omega arith)
name-carried PeriodDotted f h = period-carried f h 1 0 1 (omega arith) (omega arith)
name-carried PeriodLetter f h = period-carried f h 1 0 1 (omega arith) (omega arith)
name-carried NoonUpper f h = noon-carried f h 3 1 2 4 5 (omega arith) (omega arith) (omega arith) (omega arith)
name-carried NoonLower f h = noon-carried f h 3 0 2 3 5 (omega arith) (omega arith) (omega arith) (omega arith)
name-carried NoonDotted f h = noon-carried f h 2 0 1 2 3 (omega arith) (omega arith) (omega arith) (omega arith)
name-carried NoonLetter f h = noon-carried f h 2 0 1 2 3 (omega arith) (omega arith) (omega arith) (omega arith)

-- letters of a known count are a name's where the name has that many

letters-come-back : (k : ℕ) (l : List (List ℕ)) (i : ℕ) (r : List ℕ) → all_apart l ≡ true → i < length l
    → length (get_or l i []) ≡ k → letters k l (get_or l i [] ++ r) ≡ got (length (get_or l i [])) i
unfolding letters match_name
letters-come-back k l i r apart there e =
    let name = get_or l i [] in
    let long : k ≤ length (name ++ r) = simp length-append (omega arith) in
    rw (le-ltb (length (name ++ r)) k long)
    (ap (first_name 0 l) (take_at name r k e ∙ sym (append-nil name)) ∙ name-comes-back l i [] apart there)

-- the three rules, before r

module _ (edition : Edition) (book : Book) (current : ℕ) (l : NameList) (f : Fields) (h : Allowed f) (there : place_of l f < length (names book l)) (r : List ℕ) where
  name-same_length : (n : ℕ) → same_length book n l ≡ true → length (name_text book l f) ≡ n
  unfolding same_length name_text
  name-same_length n e =
      eqb-true (length (name_text book l f)) n
      (every-at (λ name. eqb (length name) n) (names book l) [] e (place_of l f) there)

  pub skipped-name-comes-back : (n : ℕ) → same_length book n l ≡ true
      → read_rule edition book current (SkippedName l n) (name_text book l f ++ r) ≡ got (length (name_text book l f)) None
  unfolding read_rule
  skipped-name-comes-back n e =
      let size : length (name_text book l f) ≡ n = name-same_length n e in
      rw (skip_goes_on n (name_text book l f ++ r) (simp length-append (omega arith)), add-zero, size)

  pub matched-name-comes-back : all_apart (names book l) ≡ true
      → read_rule edition book current (MatchedName l) (name_text book l f ++ r) ≡ got (length (name_text book l f)) (carried_name l f)
  unfolding read_rule name_text
  matched-name-comes-back apart =
      rw (name-comes-back (names book l) (place_of l f) r apart there, add-zero, name-carried l f h)

  pub letters-rule-comes-back : (n : ℕ) → same_length book n l ≡ true → all_apart (names book l) ≡ true
      → read_rule edition book current (Letters l n) (name_text book l f ++ r) ≡ got (length (name_text book l f)) (carried_name l f)
  unfolding read_rule name_text
  letters-rule-comes-back n e apart =
      rw (letters-come-back n (names book l) (place_of l f) r apart there (name-same_length n e), add-zero, name-carried l f h)
