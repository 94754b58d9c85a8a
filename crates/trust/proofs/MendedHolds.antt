-- The mended pattern's parts hold: the spaces that are put in meet the needs behind which they stand, and do not disturb one
-- another, for a part that gets spaces leaves neither of its first two bytes to what is behind it.
use mathlib.Core.Bool.{Bool, true, false, not}
use mathlib.Core.List.{List, [], ◌∷◌, map}
use mathlib.Core.Path.{◌≡◌, refl, sym, ap, ◌∙◌}
use Prim.Native.Nat.{ℕ, zero, suc}
use native.Mathlib.Omega.{arith}
use lib.Dec.{eqb}
use lib.ListN.{length, replicate}
use borrow.Author.Tests.{eqb-true, le-ltb}
use Rattle.meaning.specs.Bytes.{when, both}
use Rattle.meaning.specs.Mending.{space, mend_part}
use Rattle.meaning.specs.Splitting.{Content, run, quotes, quoted, unclosed, join_byte}
use Rattle.meaning.specs.Writing.{Step, literal, field, step_of}
use Rattle.meaning.specs.declared.Edition.{Edition}
use Rattle.meaning.specs.declared.Pair.TheVariants.{Full}
use Rattle.meaning.specs.declared.Rule.{Rule}
use Rattle.meaning.specs.declared.Rule.TheVariants.{FixedYear}
use Rattle.meaning.specs.declared.Verdict.TheVariants.{Yes, No}
use Rattle.meaning.specs.declared.Fields.{Fields}
use Rattle.laws.proofs.PartsApart.{Well}
use Rattle.laws.proofs.Table.{step_passes, step-passes, table_passes, symbol_passes}
use Rattle.laws.proofs.Tests.{by-test, true-is-not-false, both_true, both-are, every}
use Rattle.trust.proofs.Before.{BeginAlike, meets-alike, not_yes}
use Rattle.trust.proofs.MendedNeeds.{mendable, mended-mendable, same_first, same_second}
use Rattle.trust.proofs.Table.{in_both, in_either}
use Rattle.trust.proofs.Turns.{failing-on, failing-here}
use Rattle.trust.specs.Ahead.{step_first, rule_second, step_second, digit_first, digit_second}
use Rattle.trust.specs.Check.{meets, first_failing}
use Rattle.trust.specs.Mending.{spaces_for, spaces_before, full_steps, gap, join_spaces, mended_parts}
use Rattle.trust.specs.Needs.{rule_need, step_need}
use Rattle.trust.specs.declared.Need.{Need}
use Rattle.trust.specs.declared.Need.TheVariants.{Nothing, NoDigit, NoSecondDigit, Broken, LosesYear}

-- every part holds
unfoldable pub holds : Edition → List Step → Bool
holds edition [] = true
holds edition (s ∷ ss) = both (meets (step_need edition s) ss) (holds edition ss)

pub holds-yes : (edition : Edition) (i : ℕ) (ss : List Step) → holds edition ss ≡ true → first_failing edition i ss ≡ Yes
unfolding holds
holds-yes edition i [] h = unfold first_failing in refl
holds-yes edition i (s ∷ ss) h =
    let t = both_true (meets (step_need edition s) ss) (holds edition ss) h in
    failing-on edition i s ss t.0 ∙ holds-yes edition (suc i) ss t.1

pub yes-holds : (edition : Edition) (i : ℕ) (ss : List Step) → first_failing edition i ss ≡ Yes → holds edition ss ≡ true
unfolding holds
yes-holds edition i [] h = refl
yes-holds edition i (s ∷ ss) h =
    by-test (meets (step_need edition s) ss)
    (λ e. rw e (yes-holds edition (suc i) ss (sym (failing-on edition i s ss e) ∙ h)))
    (λ e. absurd (not_yes (sym (failing-here edition i s ss e) ∙ h)))

-- a part that does not hold is found
pub fails-no : (edition : Edition) (i : ℕ) (ss : List Step) → holds edition ss ≡ false → (part : ℕ) × (f : Fields) × (first_failing edition i ss ≡ No part f)
unfolding holds
fails-no edition i [] h = true-is-not-false h
fails-no edition i (s ∷ ss) h =
    by-test (meets (step_need edition s) ss)
    (λ e. let t = fails-no edition (suc i) ss (rw e at h) in (t.0, t.1, failing-on edition i s ss e ∙ t.2))
    (λ e. (i, _, failing-here edition i s ss e))

-- A part that gets spaces leaves neither byte to what is behind it.

abbrev gets_spaces : Need → Bool
gets_spaces Nothing = false
gets_spaces NoDigit = true
gets_spaces NoSecondDigit = true
gets_spaces Broken = false
gets_spaces LosesYear = false

abbrev has_two : Rule → Bool
has_two rule = both (rule_second rule false) (rule_second rule true)

abbrev closed : Rule → Bool
closed rule = when (has_two rule) true (in_both (λ edition. not (gets_spaces (rule_need edition rule))))

all_closed : table_passes (symbol_passes closed) ≡ true
unfolding every rule_second rule_need
all_closed = refl

fixed-closed : (c : ℕ) → closed (FixedYear c) ≡ true
unfolding rule_second
fixed-closed c = refl

second-either : (rule : Rule) (b : Bool) → has_two rule ≡ true → rule_second rule b ≡ true
second-either rule true h = (both_true (rule_second rule false) (rule_second rule true) h).1
second-either rule false h = (both_true (rule_second rule false) (rule_second rule true) h).0

not-both : {A : Type 0} (t : Bool) → t ≡ true → not t ≡ true → A
not-both true e h = true-is-not-false (sym h)
not-both false e h = true-is-not-false (sym e)

own-two : (edition : Edition) (s : Step) (b : Bool) → step_passes closed s ≡ true → gets_spaces (step_need edition s) ≡ true → step_second s b ≡ true
unfolding step_need step_second
own-two edition (literal w true) b h g = true-is-not-false (sym g)
own-two edition (literal w false) b h g = true-is-not-false (sym g)
own-two edition (field rule) b h g =
    by-test (has_two rule) (λ e. second-either rule b e)
    (λ e.
    not-both (gets_spaces (rule_need edition rule)) g (in_either (λ edition. not (gets_spaces (rule_need edition rule))) (rw e at h) edition))

pub two_bytes : (edition : Edition) (c : Content) (b : Bool) → gets_spaces (step_need edition (step_of Full c)) ≡ true → step_second (step_of Full c) b ≡ true
two_bytes edition c b g = own-two edition (step_of Full c) b (step-passes closed fixed-closed all_closed Full c) g

spaces-none : (need : Need) (ss : List Step) → gets_spaces need ≡ false → spaces_before need ss ≡ 0
unfolding meets
spaces-none Nothing ss h = refl
spaces-none NoDigit ss h = true-is-not-false h
spaces-none NoSecondDigit ss h = true-is-not-false h
spaces-none Broken ss h = refl
spaces-none LosesYear ss h = refl

-- The mended parts begin as those with their own changes do, and these as the pattern's.

first-mended : (edition : Edition) (cs : List Content) → digit_first (full_steps (mended_parts edition cs)) ≡ digit_first (full_steps (map (mend_part edition) cs))
unfolding mended_parts digit_first
first-mended edition [] = refl
first-mended edition (c ∷ cs) = refl

second-mended : (edition : Edition) (cs : List Content) → digit_second (full_steps (mended_parts edition cs)) ≡ digit_second (full_steps (map (mend_part edition) cs))
unfolding mended_parts digit_second
second-mended edition [] = refl
second-mended edition (c ∷ cs) =
    let s = step_of Full (mend_part edition c) in
    let behind = full_steps (map (mend_part edition) cs) in
    let spaced = digit_first (full_steps (join_spaces (gap edition c cs) (mended_parts edition cs))) in
    by-test (gets_spaces (step_need edition s))
    (λ g. two_bytes edition (mend_part edition c) spaced g ∙ sym (two_bytes edition (mend_part edition c) (digit_first behind) g))
    (λ g.
    let none : gap edition c cs ≡ 0 = unfold gap in spaces-none (step_need edition s) behind g in
    rw none (unfold join_spaces in ap (step_second s) (first-mended edition cs)))

pub alike-mended : (edition : Edition) (cs : List Content) → BeginAlike (full_steps (mended_parts edition cs)) (full_steps (map (mend_part edition) cs))
alike-mended edition cs = record { first = first-mended edition cs; second = second-mended edition cs }

first-changed : (edition : Edition) (cs : List Content) → digit_first (full_steps (map (mend_part edition) cs)) ≡ digit_first (full_steps cs)
unfolding digit_first
first-changed edition [] = refl
first-changed edition (c ∷ cs) = same_first edition c

second-changed : (edition : Edition) (cs : List Content) → digit_second (full_steps (map (mend_part edition) cs)) ≡ digit_second (full_steps cs)
unfolding digit_second
second-changed edition [] = refl
second-changed edition (c ∷ cs) =
    same_second edition c (digit_first (full_steps (map (mend_part edition) cs))) ∙ ap (step_second (step_of Full c)) (first-changed edition cs)

pub alike-changed : (edition : Edition) (cs : List Content) → BeginAlike (full_steps (map (mend_part edition) cs)) (full_steps cs)
alike-changed edition cs = record { first = first-changed edition cs; second = second-changed edition cs }

-- spaces hold, and what stands behind them holds as before

run_holds : (edition : Edition) (n : ℕ) (ss : List Step) → holds edition (step_of Full (run space n) ∷ ss) ≡ holds edition ss
unfolding holds step_of step_need meets
run_holds edition n ss = refl

space-holds : (edition : Edition) (cs : List Content) → holds edition (full_steps (join_byte space cs)) ≡ holds edition (full_steps cs)
space-holds edition [] = run_holds edition 1 []
space-holds edition (run a n ∷ cs) =
    by-test (eqb space a)
    (λ e. rw (e, ← eqb-true space a e) (run_holds edition (suc n) (full_steps cs) ∙ sym (run_holds edition n (full_steps cs))))
    (λ e. rw e (run_holds edition 1 (full_steps (run a n ∷ cs))))
space-holds edition (quotes n ∷ cs) = run_holds edition 1 (full_steps (quotes n ∷ cs))
space-holds edition (quoted s ∷ cs) = run_holds edition 1 (full_steps (quoted s ∷ cs))
space-holds edition (unclosed s ∷ cs) = run_holds edition 1 (full_steps (unclosed s ∷ cs))

pub spaces-hold : (edition : Edition) (k : ℕ) (cs : List Content) → holds edition (full_steps (join_spaces k cs)) ≡ holds edition (full_steps cs)
unfolding join_spaces
spaces-hold edition zero cs = refl
spaces-hold edition (suc k) cs = space-holds edition (join_spaces k cs) ∙ spaces-hold edition k cs

-- spaces meet the needs that they are put in for

one-space : (cs : List Content) → digit_first (full_steps (join_byte space cs)) ≡ false
unfolding digit_first step_of step_first
one-space [] = refl
one-space (run a n ∷ cs) = by-test (eqb space a) (λ e. rw e) (λ e. rw e)
one-space (quotes n ∷ cs) = refl
one-space (quoted s ∷ cs) = refl
one-space (unclosed s ∷ cs) = refl

many-spaces : (n : ℕ) (ss : List Step) → digit_second (step_of Full (run space (suc (suc n))) ∷ ss) ≡ false
unfolding digit_second step_of step_second
many-spaces n ss = rw (le-ltb (suc (suc (length (replicate n space)))) 2 (omega arith))

two-spaces : (cs : List Content) → digit_second (full_steps (join_byte space (join_byte space cs))) ≡ false
two-spaces [] = many-spaces 0 []
two-spaces (run a n ∷ cs) =
    by-test (eqb space a) (λ e. rw e (many-spaces n (full_steps cs))) (λ e. rw e (many-spaces 0 (full_steps (run a n ∷ cs))))
two-spaces (quotes n ∷ cs) = many-spaces 0 (full_steps (quotes n ∷ cs))
two-spaces (quoted s ∷ cs) = many-spaces 0 (full_steps (quoted s ∷ cs))
two-spaces (unclosed s ∷ cs) = many-spaces 0 (full_steps (unclosed s ∷ cs))

spaces-meet : (need : Need) (cs : List Content) → mendable need ≡ true → meets need (full_steps (join_spaces (spaces_for need) cs)) ≡ true
unfolding meets join_spaces
spaces-meet Nothing cs h = refl
spaces-meet NoDigit cs h = rw (one-space cs)
spaces-meet NoSecondDigit cs h = rw (two-spaces cs)
spaces-meet Broken cs h = true-is-not-false (sym h)
spaces-meet LosesYear cs h = true-is-not-false (sym h)

gap_meets : (need : Need) (ss : List Step) (cs : List Content) → mendable need ≡ true → meets need (full_steps cs) ≡ meets need ss
    → meets need (full_steps (join_spaces (spaces_before need ss) cs)) ≡ true
gap_meets need ss cs h same =
    by-test (meets need ss) (λ e. rw e (unfold join_spaces in (same ∙ e))) (λ e. rw e (spaces-meet need cs h))

pub mended-holds : (edition : Edition) (cs : List Content) → Well cs → holds edition (full_steps (mended_parts edition cs)) ≡ true
unfolding mended_parts holds gap
mended-holds edition [] w = refl
mended-holds edition (c ∷ cs) w =
    let need = step_need edition (step_of Full (mend_part edition c)) in
    let behind = full_steps (map (mend_part edition) cs) in
    both-are (meets need (full_steps (join_spaces (gap edition c cs) (mended_parts edition cs))))
    (holds edition (full_steps (join_spaces (gap edition c cs) (mended_parts edition cs))))
    (gap_meets need behind (mended_parts edition cs) (mended-mendable edition c w.0) (meets-alike need (alike-mended edition cs)))
    (spaces-hold edition (gap edition c cs) (mended_parts edition cs) ∙ mended-holds edition cs w.2)
