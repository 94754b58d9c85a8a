-- Parts before others: the check looks at what those begin with, and at nothing else of them. Two bytes can stand for them, and
-- parts that hold before others hold alone.
use mathlib.Core.Bool.{Bool, true, false, not}
use mathlib.Core.List.{List, [], ◌∷◌, ◌++◌}
use mathlib.Core.Path.{◌≡◌, refl, sym, ap, ◌∙◌}
use Prim.Native.Nat.{ℕ, suc, ◌+◌}
use native.Mathlib.Nat.{add-zero}
use native.Mathlib.Omega.{arith}
use lib.Dec.{ltb}
use lib.ListN.{length}
use borrow.Author.Tests.{not-true}
use Rattle.meaning.specs.Bytes.{when, both, digit_at}
use Rattle.meaning.specs.Writing.{Step, literal, field}
use Rattle.meaning.specs.declared.Edition.{Edition}
use Rattle.meaning.specs.declared.Fields.{Fields}
use Rattle.meaning.specs.declared.NameList.{NameList}
use Rattle.meaning.specs.declared.Quantity.{Quantity}
use Rattle.meaning.specs.declared.Rule.{Rule}
use Rattle.meaning.specs.declared.Rule.TheVariants.{Number, SkippedNumber, LetterQuarter, SkippedName, MatchedName, Letters, Years, FixedYear, TwoDigitYear, Zone}
use Rattle.meaning.specs.declared.Verdict.TheVariants.{Yes, No}
use Rattle.laws.proofs.Tests.{by-test}
use Rattle.laws.specs.Widths.{most_digits}
use Rattle.trust.proofs.Turns.{failing-on, failing-here}
use Rattle.trust.specs.Ahead.{digit_first, digit_second, has_letters, name_second, number_second, rule_second, step_second}
use Rattle.trust.specs.Check.{meets, first_failing}
use Rattle.trust.specs.Halves.{mark, stand_in, later, and_then}
use Rattle.trust.specs.Needs.{step_need}
use Rattle.trust.specs.declared.Need.{Need}
use Rattle.trust.specs.declared.Need.TheVariants.{Nothing, NoDigit, NoSecondDigit, Broken, LosesYear}

-- their first and second bytes can be a digit in both or in neither
pub record BeginAlike (ts us : List Step) : Type 0 where
  pub first : digit_first ts ≡ digit_first us
  pub second : digit_second ts ≡ digit_second us

alike-behind : (ss : List Step) {ts us : List Step} → BeginAlike ts us → BeginAlike (ss ++ ts) (ss ++ us)
alike-behind [] same = same
alike-behind (s ∷ []) same = record { first = unfold digit_first in refl; second = unfold digit_second in ap (step_second s) same.first }
alike-behind (s ∷ r ∷ ss) same = record { first = unfold digit_first in refl; second = unfold digit_second in refl }

pub meets-alike : (need : Need) {ts us : List Step} → BeginAlike ts us → meets need ts ≡ meets need us
unfolding meets
meets-alike Nothing same = refl
meets-alike NoDigit same = ap not same.first
meets-alike NoSecondDigit same = ap not same.second
meets-alike Broken same = refl
meets-alike LosesYear same = refl

-- The parts before others, with some in their place that begin alike and hold; then those others.
pub failing-join : (edition : Edition) (i : ℕ) (ss : List Step) {ts us : List Step} → BeginAlike ts us → ((j : ℕ) → first_failing edition j us ≡ Yes)
    → first_failing edition i (ss ++ ts) ≡ and_then (first_failing edition i (ss ++ us)) (first_failing edition (i + length ss) ts)
failing-join edition i [] same hold = rw (hold i, add-zero)
failing-join edition i (s ∷ ss) {ts} {us} same hold =
    let next : i + suc (length ss) ≡ suc i + length ss = omega arith in
    let as-well = meets-alike (step_need edition s) (alike-behind ss same) in
    by-test (meets (step_need edition s) (ss ++ us))
    (λ e. rw (failing-on edition i s (ss ++ ts) (as-well ∙ e), failing-on edition i s (ss ++ us) e, next) (failing-join edition (suc i) ss same hold))
    (λ e. rw (failing-here edition i s (ss ++ ts) (as-well ∙ e), failing-here edition i s (ss ++ us) e))

pub failing-later : (edition : Edition) (k i : ℕ) (ss : List Step) → first_failing edition (k + i) ss ≡ later k (first_failing edition i ss)
failing-later edition k i [] = unfold first_failing in refl
failing-later edition k i (s ∷ ss) =
    let next : suc (k + i) ≡ k + suc i = omega arith in
    by-test (meets (step_need edition s) ss)
    (λ e. rw (failing-on edition (k + i) s ss e, failing-on edition i s ss e, next) (failing-later edition k (suc i) ss))
    (λ e. rw (failing-here edition (k + i) s ss e, failing-here edition i s ss e))

-- the two bytes that stand for parts begin as they do, and hold

mark-first : (digit : Bool) (t : Bool) → digit_first (literal (mark digit ∷ mark t ∷ []) false ∷ []) ≡ digit
unfolding digit_first
mark-first true t = refl
mark-first false t = refl

mark-second : (digit : Bool) (t : Bool) → digit_second (literal (mark t ∷ mark digit ∷ []) false ∷ []) ≡ digit
unfolding digit_second
mark-second true t = refl
mark-second false t = refl

pub stand-in-alike : (ss : List Step) → BeginAlike ss (stand_in ss)
stand-in-alike ss =
    record {
      first = unfold stand_in in sym (mark-first (digit_first ss) (digit_second ss));
      second = unfold stand_in in sym (mark-second (digit_second ss) (digit_first ss));
    }

pub stand-in-holds : (edition : Edition) (ss : List Step) (j : ℕ) → first_failing edition j (stand_in ss) ≡ Yes
unfolding stand_in first_failing
stand-in-holds edition ss j = refl

-- where they can begin with no digit, nothing stands for them

pub nothing-alike : (ss : List Step) → digit_first ss ≡ false → digit_second ss ≡ false → BeginAlike ss []
unfolding digit_first digit_second
nothing-alike ss first second = record { first = first; second = second }

pub nothing-holds : (edition : Edition) (j : ℕ) → first_failing edition j [] ≡ Yes
unfolding first_failing
nothing-holds edition j = refl

-- parts that hold before others hold alone

pub not_yes : {part : ℕ} {f : Fields} → No part f ≡ Yes → ⊥
not_yes h = let z : ◌≡◌ {A = ℕ} 0 1 = cc in omega arith

when-less : (t b c : Bool) → when t b c ≡ false → when t false c ≡ false
when-less true b c h = refl
when-less false b c h = h

both-less : (t b : Bool) → both t b ≡ false → both t false ≡ false
both-less true b h = refl
both-less false b h = refl

number-less : (q : Quantity) (least : ℕ) (b : Bool) → number_second q least b ≡ false → number_second q least false ≡ false
number-less q least b = when-less (both (ltb least 2) (ltb (most_digits q) 2)) b true

name-less : (l : NameList) (b : Bool) → name_second l b ≡ false → name_second l false ≡ false
name-less l b = both-less (has_letters l) b

rule-less : (rule : Rule) (b : Bool) → rule_second rule b ≡ false → rule_second rule false ≡ false
unfolding rule_second
rule-less (Number q least most u z) b h = number-less q least b h
rule-less (SkippedNumber q least most) b h = number-less q least b h
rule-less LetterQuarter b h = h
rule-less (SkippedName l n) b h = name-less l b h
rule-less (MatchedName l) b h = name-less l b h
rule-less (Letters l n) b h = name-less l b h
rule-less (Years k) b h = h
rule-less (FixedYear k) b h = h
rule-less TwoDigitYear b h = h
rule-less (Zone zone) b h = h

step_less : (s : Step) (b : Bool) → step_second s b ≡ false → step_second s false ≡ false
unfolding step_second
step_less (literal w lost) b h = when-less (ltb (length w) 2) b (digit_at 1 w) h
step_less (field rule) b h = rule-less rule b h

first-less : (ss ts : List Step) → digit_first (ss ++ ts) ≡ false → digit_first ss ≡ false
unfolding digit_first
first-less [] ts h = refl
first-less (s ∷ ss) ts h = h

second-less : (ss ts : List Step) → digit_second (ss ++ ts) ≡ false → digit_second ss ≡ false
unfolding digit_second
second-less [] ts h = refl
second-less (s ∷ []) ts h = step_less s (digit_first ts) h
second-less (s ∷ r ∷ ss) ts h = h

meets-alone : (need : Need) (ss ts : List Step) → meets need (ss ++ ts) ≡ true → meets need ss ≡ true
unfolding meets
meets-alone Nothing ss ts h = refl
meets-alone NoDigit ss ts h = rw (first-less ss ts (not-true _ h))
meets-alone NoSecondDigit ss ts h = rw (second-less ss ts (not-true _ h))
meets-alone Broken ss ts h = h
meets-alone LosesYear ss ts h = h

pub holds-alone : (edition : Edition) (i : ℕ) (ss ts : List Step) → first_failing edition i (ss ++ ts) ≡ Yes → first_failing edition i ss ≡ Yes
holds-alone edition i [] ts h = nothing-holds edition i
holds-alone edition i (s ∷ ss) ts h =
    by-test (meets (step_need edition s) (ss ++ ts))
    (λ e.
    rw (failing-on edition i s ss (meets-alone (step_need edition s) ss ts e))
    (holds-alone edition (suc i) ss ts (rw (failing-on edition i s (ss ++ ts) e) at h)))
    (λ e. absurd (not_yes (rw (failing-here edition i s (ss ++ ts) e) at h)))
