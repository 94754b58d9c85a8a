-- The turns of a walk that looks for the first part that does not hold: on where a part holds, else its answer.
use Rattle.std.specs.Prelude.{Option, Some, None}
use mathlib.Core.Bool.{Bool, true, false}
use mathlib.Core.List.{List, [], ◌∷◌, map}
use mathlib.Core.Path.{◌≡◌, refl, ap, ◌∙◌}
use Prim.Native.Nat.{ℕ, suc, ◌-◌, ◌≤◌, ◌<◌}
use native.Mathlib.Omega.{arith}
use lib.ListN.{length, length-append}
use borrow.Author.Tests.{lt-ltb}
use Rattle.laws.proofs.PartBytes.{joined, part_length, parts-joined}
use Rattle.laws.proofs.PartsApart.{Held, Well, parts-stand-well}
use Rattle.laws.proofs.Tests.{by-test}
use Rattle.meaning.specs.Mending.{part_bytes}
use Rattle.meaning.specs.Splitting.{Content, run, quotes, quoted, unclosed, contents, length_of}
use Rattle.meaning.specs.Writing.{Step, step_of, steps}
use Rattle.meaning.specs.declared.Edition.{Edition}
use Rattle.meaning.specs.declared.Pair.TheVariants.{Full}
use Rattle.meaning.specs.declared.Verdict.{Verdict}
use Rattle.meaning.specs.declared.Verdict.TheVariants as verdict
use Rattle.trust.specs.Check.{meets, witness, first_failing, first_unmet, unmet_at, shown}
use Rattle.trust.specs.Needs.{step_need}
use Rattle.trust.specs.declared.Unmet.{Unmet}

module _ (edition : Edition) (i : ℕ) (s : Step) (ss : List Step) where
  turn : Bool → Verdict
  turn b = elim b as (λ x. Verdict) [ true ↦ first_failing edition (suc i) ss | false ↦ verdict.No i (witness (step_need edition s)) ]

  pub failing-on : meets (step_need edition s) ss ≡ true → first_failing edition i (s ∷ ss) ≡ first_failing edition (suc i) ss
  unfolding first_failing turn
  failing-on e = ap turn e

  pub failing-here : meets (step_need edition s) ss ≡ false → first_failing edition i (s ∷ ss) ≡ verdict.No i (witness (step_need edition s))
  unfolding first_failing turn
  failing-here e = ap turn e

-- the same of the walk over the parts that start in the next n bytes

module _ (edition : Edition) (n i : ℕ) (c : Content) (cs : List Content) where
  met : Bool
  met = meets (step_need edition (step_of Full c)) (map (step_of Full) cs)

  turn-unmet : Bool → Bool → Option Unmet
  turn-unmet more holds =
      elim more as (λ x. Option Unmet) [
        | true ↦
            elim holds as (λ x. Option Unmet) [
              | true ↦ first_unmet edition (n - length_of c) (suc i) cs
              | false ↦ Some (unmet_at i (step_need edition (step_of Full c)))
            ]
        | false ↦ None
      ]

  module _ (more : 0 < n) where
    turned : first_unmet edition n i (c ∷ cs) ≡ turn-unmet true met
    unfolding first_unmet turn-unmet met
    turned = ap (λ (t : Bool). turn-unmet t met) (lt-ltb 0 n more)

    pub unmet-on : meets (step_need edition (step_of Full c)) (map (step_of Full) cs) ≡ true
        → first_unmet edition n i (c ∷ cs) ≡ first_unmet edition (n - length_of c) (suc i) cs
    unfolding turn-unmet met
    unmet-on e = turned ∙ ap (turn-unmet true) e

    pub unmet-here : meets (step_need edition (step_of Full c)) (map (step_of Full) cs) ≡ false
        → first_unmet edition n i (c ∷ cs) ≡ Some (unmet_at i (step_need edition (step_of Full c)))
    unfolding turn-unmet met
    unmet-here e = turned ∙ ap (turn-unmet true) e

pub unmet-done : (edition : Edition) (i : ℕ) (cs : List Content) → first_unmet edition 0 i cs ≡ None
unfolding first_unmet
unmet-done edition i [] = refl
unmet-done edition i (c ∷ cs) = refl

-- All parts of a pattern start in its bytes, so that the answer is the check's.

some_bytes : (c : Content) → Held c → 0 < length_of c
unfolding length_of
some_bytes (run b n) h = omega (arith, h.0)
some_bytes (quotes n) h = omega arith
some_bytes (quoted s) h = omega arith
some_bytes (unclosed s) h = omega arith

failing-unmet : (edition : Edition) (n i : ℕ) (cs : List Content) → Well cs → length (joined cs) ≤ n
    → shown (first_unmet edition n i cs) ≡ first_failing edition i (map (step_of Full) cs)
unfolding joined
failing-unmet edition n i [] w h = unfold first_unmet first_failing in refl
failing-unmet edition n i (c ∷ cs) w h =
    let some = some_bytes c w.0 in
    let bytes = length-append (part_bytes c) (joined cs) in
    let k : 0 < n = omega (arith, part_length c) in
    let s = step_of Full c in
    let ss = map (step_of Full) cs in
    by-test (meets (step_need edition s) ss)
    (λ e.
    rw (unmet-on edition n i c cs k e, failing-on edition i s ss e)
    (failing-unmet edition (n - length_of c) (suc i) cs w.2 (omega (arith, part_length c))))
    (λ e. rw (unmet-here edition n i c cs k e, failing-here edition i s ss e))

pub shown-failing : (edition : Edition) (p : List ℕ) → shown (first_unmet edition (length p) 0 (contents p)) ≡ first_failing edition 0 (steps Full p)
unfolding steps
shown-failing edition p =
    failing-unmet edition (length p) 0 (contents p) (parts-stand-well p) (rw (parts-joined p) (omega arith))
