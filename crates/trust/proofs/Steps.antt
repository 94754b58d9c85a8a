-- A part comes back for every allowed record where the parts behind it meet its need, and else fails for the record shown.
use Rattle.std.specs.Prelude.{None}
use mathlib.Core.Bool.{Bool, true, false}
use mathlib.Core.List.{List, [], ◌∷◌, ◌++◌}
use mathlib.Core.Path.{◌≡◌, refl, sym}
use Prim.Native.Nat.{ℕ, ◌-◌, ◌≤◌, ◌<◌}
use native.Mathlib.Nat.{add-zero}
use native.Mathlib.Omega.{arith}
use lib.ListN.{length, take, length-append, length-take}
use borrow.Author.Tests.{not-true, not-false}
use Rattle.meaning.specs.Names.{Book}
use Rattle.meaning.specs.Readers.{got, same}
use Rattle.meaning.specs.Reading.{literal_read, read_step, carried_step}
use Rattle.meaning.specs.Writing.{Step, ends_in_quote, step_text, texts}
use Rattle.meaning.specs.declared.Choices.{Choices}
use Rattle.meaning.specs.declared.Fields.{Fields}
use Rattle.laws.proofs.Fields.{Allowed, allowed}
use Rattle.laws.proofs.Readers.{skip_goes_on, same-goes-on}
use Rattle.laws.proofs.Takes.{Takes, takes-got, takes_same, takes-done, takes-passed}
use Rattle.laws.proofs.Tests.{true-is-not-false}
use Rattle.trust.proofs.Ahead.{first_byte, no-first-digit, second-byte, no-second-digit}
use Rattle.trust.proofs.Fails.{Shown, rule-fails}
use Rattle.trust.proofs.Fitting.{Fitting, symbol-first, literal-first, open-last}
use Rattle.trust.proofs.Sound.{Met, rule-comes-back}
use Rattle.trust.proofs.Witness.{witness-fine}
use Rattle.trust.specs.Ahead.{digit_first, digit_second}
use Rattle.trust.specs.Check.{meets, witness, short_numbers}
use Rattle.trust.specs.Needs.{step_need}
use Rattle.trust.specs.declared.Need.{Need}
use Rattle.trust.specs.declared.Need.TheVariants.{Nothing, NoDigit, NoSecondDigit, Broken, LosesYear}

-- what the lookahead says of the text

met : {book : Book} (need : Need) {ss : List Step} → Fitting book ss → meets need ss ≡ true → (f : Fields) → Allowed f → Met need (texts book f ss)
unfolding meets
met Nothing fit e f h = tt
met NoDigit {ss} fit e f h = no-first-digit fit f h (not-true (digit_first ss) e)
met NoSecondDigit {ss} fit e f h = no-second-digit fit f h (not-true (digit_second ss) e)
met Broken fit e f h = true-is-not-false (sym e)
met LosesYear fit e f h = true-is-not-false (sym e)

shown : {book : Book} (need : Need) {ss : List Step} → Fitting book ss → meets need ss ≡ false → Shown need (texts book (witness need) ss)
unfolding meets
shown Nothing fit e = true-is-not-false e
shown NoDigit {ss} fit e = rw (first_byte fit short_numbers (allowed short_numbers (witness-fine NoDigit)) (λ _. refl)) (not-false (digit_first ss) e)
shown NoSecondDigit {ss} fit e = rw (second-byte fit) (not-false (digit_second ss) e)
shown Broken fit e = tt
shown LosesYear fit e = tt

-- a part's text comes back before what the parts behind it write
abbrev pub StepBack : Choices → Book → ℕ → Step → List Step → Fields → Type 0
StepBack choices book current s ss f =
    read_step choices book current s (step_text book f s ++ texts book f ss) ≡ got (length (step_text book f s)) (carried_step s f)

literal-comes-back : (strict : Bool) (s r : List ℕ) → literal_read strict s (s ++ r) ≡ got (length s) None
literal-comes-back true s r = rw (same-goes-on s r, add-zero)
literal-comes-back false s r = rw (skip_goes_on (length s) (s ++ r) (simp length-append (omega arith)), add-zero)

pub step-comes-back : (choices : Choices) (book : Book) (current : ℕ) {s : Step} {ss : List Step} → Fitting book (s ∷ ss) → meets (step_need choices.edition s) ss ≡ true → (f : Fields)
    → Allowed f → StepBack choices book current s ss f
unfolding step_need read_step step_text carried_step
step-comes-back choices book current (symbol-first {rule} {ss} fit rest) e f h = rule-comes-back choices.edition book current rule fit f h (texts book f ss) (met _ rest e f h)
step-comes-back choices book current (literal-first {s} {ss} k rest) e f h = literal-comes-back choices.strict s (texts book f ss)
step-comes-back choices book current (open-last {s} {lost = true} k) e f h = true-is-not-false (unfold meets in sym e)
step-comes-back choices book current (open-last {s} {lost = false} k) e f h = literal-comes-back choices.strict s (texts book f [])

-- an unclosed part that loses its last byte is still read with it
has-a-quote : (s : List ℕ) → ends_in_quote s ≡ true → 0 < length s
unfolding ends_in_quote
has-a-quote [] e = true-is-not-false (sym e)
has-a-quote (b ∷ s) e = omega arith

takes-literal : (strict : Bool) (s t : List ℕ) → Takes (length s) (literal_read strict s t)
takes-literal true s t = takes-done (length s) (same s) _ t (takes_same s t)
takes-literal false s t = takes-passed (length s) t

lost-fails : (strict : Bool) (s r : List ℕ) → ends_in_quote s ≡ true
    → literal_read strict s (take (length s - 1) s ++ r) ≡ got (length (take (length s - 1) s)) None → ⊥
lost-fails strict s r k e =
    let t = take (length s - 1) s ++ r in
    omega (arith, has-a-quote s k, length-take (length s - 1) s, takes-got (length s) (takes-literal strict s t) e)

pub step-fails : (choices : Choices) (book : Book) (current : ℕ) → current ≤ 9999 → {s : Step} {ss : List Step} → Fitting book (s ∷ ss) → meets (step_need choices.edition s) ss ≡ false
    → StepBack choices book current s ss (witness (step_need choices.edition s)) → ⊥
unfolding step_need read_step step_text carried_step
step-fails choices book current small (symbol-first {rule} {ss} fit rest) e back = rule-fails choices.edition book current small rule fit _ (shown _ rest e) back
step-fails choices book current small (literal-first {s} {ss} k rest) e back = true-is-not-false (unfold meets in e)
step-fails choices book current small (open-last {s} {lost = true} k) e back = lost-fails choices.strict s _ (sym k) back
step-fails choices book current small (open-last {s} {lost = false} k) e back = true-is-not-false (unfold meets in e)
