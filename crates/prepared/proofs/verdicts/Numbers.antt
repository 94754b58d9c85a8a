-- The answers come back from their numbers, and those of a pattern are below 2,048: it has at most 256 parts.
use Rattle.std.specs.Prelude.{Option, Some, None}
use mathlib.Core.List.{List, [], ◌∷◌, map}
use mathlib.Core.Path.{◌≡◌, refl}
use Prim.Native.Nat.{ℕ, suc, ◌+◌, ◌-◌, ◌*◌, ◌/◌, ◌%◌, ◌≤◌, ◌<◌}
use native.Mathlib.Omega.{arith}
use borrow.Author.Tests.{ne_eqb, ltb-true, ltb-false}
use lib.Dec.{ltb}
use lib.ListN.{length, length-map}
use Rattle.laws.proofs.Tests.{by-test}
use Rattle.meaning.specs.Splitting.{Content, contents, length_of}
use Rattle.meaning.specs.Writing.{step_of, steps}
use Rattle.meaning.specs.declared.Edition.{Edition}
use Rattle.meaning.specs.declared.Edition.TheVariants.{First, Second}
use Rattle.meaning.specs.declared.Pair.TheVariants.{Full}
use Rattle.pattern.proofs.parts.Few.{few-steps}
use Rattle.trust.proofs.Turns.{unmet-on, unmet-here, unmet-done}
use Rattle.trust.specs.Check.{first_unmet, meets}
use Rattle.trust.specs.Needs.{step_need}
use Rattle.trust.specs.declared.Need.{Need}
use Rattle.trust.specs.declared.Need.TheVariants.{Nothing, NoDigit, NoSecondDigit, Broken, LosesYear}
use Rattle.trust.specs.declared.Unmet.{Unmet}
use Rattle.prepared.specs.Verdicts.{need_number, need_in, unmet_number, unmet_in, found_with, answer_number}

need-back : (need : Need) → need_in (need_number need) ≡ need
need-back Nothing = refl
need-back NoDigit = refl
need-back NoSecondDigit = refl
need-back Broken = refl
need-back LosesYear = refl

need-small : (need : Need) → need_number need < 5
need-small Nothing = omega arith
need-small NoDigit = omega arith
need-small NoSecondDigit = omega arith
need-small Broken = omega arith
need-small LosesYear = omega arith

pub unmet-back : (u : Option Unmet) → unmet_in (unmet_number u) ≡ u
unmet-back None = refl
unmet-back (Some u) =
    let n = 8 * u.part + 1 + need_number u.need in
    let small = need-small u.need in
    let which : (n - 1) % 8 ≡ need_number u.need = omega arith in
    let at : (n - 1) / 8 ≡ u.part = omega arith in
    rw (ne_eqb n 0 (omega arith), which, at, need-back u.need)

pub answer_back : (edition : Edition) (held : ℕ) (of : Edition → Option Unmet) → held < 512 → ((e : Edition) → unmet_number (of e) < 2048)
    → answer_number edition (found_with held (of First) (of Second)) ≡ unmet_number (of edition)
answer_back First held of h small = omega (arith, small First)
answer_back Second held of h small = omega (arith, small First, small Second)

-- the part's place is below the number of parts
unmet-below : (edition : Edition) (n i : ℕ) (cs : List Content) → i + length cs ≤ 256 → unmet_number (first_unmet edition n i cs) < 2048
unmet-below edition n i [] h = unfold first_unmet in omega arith
unmet-below edition n i (c ∷ cs) h =
    by-test (ltb 0 n)
    (λ e.
    let more = ltb-true 0 n e in
    by-test (meets (step_need edition (step_of Full c)) (map (step_of Full) cs))
    (λ d. rw (unmet-on edition n i c cs more d) (unmet-below edition (n - length_of c) (suc i) cs (omega arith)))
    (λ d. rw (unmet-here edition n i c cs more d) (omega (arith, need-small (step_need edition (step_of Full c))))))
    (λ e. let none : n ≡ 0 = omega (arith, ltb-false 0 n e) in rw (none, unmet-done edition i (c ∷ cs)) (omega arith))

pub unmet-small : (edition : Edition) (p : List ℕ) → length p ≤ 256 → unmet_number (first_unmet edition (length p) 0 (contents p)) < 2048
unmet-small edition p h =
    unmet-below edition (length p) 0 (contents p)
    (unfold steps in omega (arith, few-steps Full p, length-map (contents p) (step_of Full)))
