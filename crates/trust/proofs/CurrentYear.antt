-- Demand 3: the answer of the check does not depend on the current year, as long as that is one of 1..9999, or of 81..9999 in the
-- second edition. Another record may fail in one year alone: 2025 by yy comes back in 2025 and not in 1999.
use Rattle.std.specs.Prelude.{Ok, Result}
use mathlib.Core.Bool.{Bool, false}
use mathlib.Core.List.{List}
use mathlib.Core.Path.{◌≡◌, sym, ◌∙◌}
use Prim.Native.Nat.{ℕ}
use lib.IntN.{ℤ, nat_abs}
use Rattle.meaning.specs.Answers.{current_year_check}
use Rattle.meaning.specs.Books.{Valid}
use Rattle.meaning.specs.Names.{Book}
use Rattle.meaning.specs.Trust.{RealDay, FailsFirst, full_pair, SaysOf, SaysWith, trust_check}
use Rattle.meaning.specs.Writing.{steps}
use Rattle.meaning.specs.declared.Refusal.{Refusal}
use Rattle.meaning.specs.declared.Edition.{Edition}
use Rattle.meaning.specs.declared.Fields.{Fields}
use Rattle.meaning.specs.declared.Pair.TheVariants.{Full}
use Rattle.meaning.specs.declared.Verdict.{Verdict}
use Rattle.meaning.specs.declared.Verdict.TheVariants.{No}
use Rattle.trust.proofs.Agreement.{SameButRecord}
use Rattle.trust.proofs.Verdicts.{verdict-says-with, told-as-checked}
use Rattle.trust.specs.Check.{verdict_of}

module _ (edition : Edition) (p : List ℕ) (current current' : ℤ) (allowed : current_year_check edition current ≡ Ok tt) (allowed' : current_year_check edition current' ≡ Ok tt) where
  -- the check answers the same, its record included
  pub same-verdict : verdict_of edition p current ≡ verdict_of edition p current'
  unfolding verdict_of trust_check
  same-verdict = rw (allowed, allowed')

  module _ (book : Book) (valid : Valid book) where
    -- any two answers that the promise allows, one in each year, are the same but for the record
    pub same_answer : (v v' : Result Verdict Refusal) → SaysWith book edition p current v → SaysWith book edition p current' v' → SameButRecord v v'
    same_answer v v' says says' =
        told-as-checked book valid edition p current false v (says false)
        ∙ rw same-verdict (sym (told-as-checked book valid edition p current' false v' (says' false)))

    -- the record that the check shows in one year fails in the other as well
    pub record-fails : (strict : Bool) (part : ℕ) (f : Fields) → verdict_of edition p current ≡ Ok (No part f)
        → FailsFirst RealDay (full_pair edition strict) book (nat_abs current') (steps Full p) part f
    unfolding SaysOf
    record-fails strict part f e =
        let e' : verdict_of edition p current' ≡ Ok (No part f) = sym same-verdict ∙ e in
        let says : SaysWith book edition p current' (Ok (No part f)) = rw e' at (verdict-says-with book valid edition p current') in
        (says strict).1
