-- The check is right: its answer is what `Says` asks of it, for every pattern and every current year, in either edition.
use Rattle.std.specs.Prelude.{Ok, Err, Result}
use mathlib.Core.Bool.{Bool, true, false}
use mathlib.Core.List.{List, [], ◌∷◌}
use mathlib.Core.Path.{◌≡◌, refl, sym, ◌∙◌}
use Prim.Native.Nat.{ℕ, zero, suc, ◌+◌, ◌≤◌, ◌<◌}
use native.Mathlib.Omega.{arith}
use lib.Dec.{leb}
use lib.IntN.{ℤ, pos, negsuc, nat_abs}
use lib.ListN.{length, drop}
use borrow.Author.Tests.{leb-true}
use Rattle.meaning.specs.Answers.{first_current_year, current_year_check, fields_check, pattern_check, within}
use Rattle.meaning.specs.Books.{Valid}
use Rattle.meaning.specs.Names.{Book}
use Rattle.meaning.specs.Trust.{part_at, ComesBack, Records, AnyAllowed, RealDay, AllComeBack, FailsFirst, trust_check, full_pair, SaysOf, SaysWith, Says}
use Rattle.meaning.specs.Writing.{Step, steps}
use Rattle.meaning.specs.Results.{Checked}
use Rattle.meaning.specs.declared.Refusal.{Refusal}
use Rattle.meaning.specs.declared.Choices.{Choices}
use Rattle.meaning.specs.declared.Edition.{Edition}
use Rattle.meaning.specs.declared.Fields.{Fields}
use Rattle.meaning.specs.declared.Pair.TheVariants.{Full}
use Rattle.meaning.specs.declared.Refusal.TheVariants.{CurrentYear}
use Rattle.meaning.specs.declared.Verdict.{Verdict}
use Rattle.meaning.specs.declared.Verdict.TheVariants as verdict
use Rattle.laws.proofs.Checks.{else-fine, fine-unless}
use Rattle.laws.proofs.Fields.{allowed}
use Rattle.laws.proofs.Tests.{both_true, by-test}
use Rattle.laws.proofs.Texts.{text-from}
use Rattle.trust.proofs.Agreement.{SameButRecord, answers-of-coincide}
use Rattle.trust.proofs.Fitting.{Fitting, fitting-from, steps-fit}
use Rattle.trust.proofs.RealDays.{witness-real}
use Rattle.trust.proofs.Steps.{step-comes-back, step-fails}
use Rattle.trust.proofs.Turns.{failing-on, failing-here}
use Rattle.trust.proofs.Witness.{witness-fine}
use Rattle.trust.specs.Check.{meets, witness, first_failing, verdict_by, verdict_of}
use Rattle.trust.specs.Needs.{step_need}
use Rattle.trust.specs.declared.Need.{Need}

-- what the first part that fails is, by the definition

-- whether the check takes part i to hold
holds : Edition → List Step → ℕ → Bool
holds edition ss i = meets (step_need edition (part_at ss i)) (drop (suc i) ss)

record FirstOf (edition : Edition) (ss : List Step) (i : ℕ) (f : Fields) : Type 0 where
  there : i < length ss
  fails : holds edition ss i ≡ false
  shows : f ≡ witness (step_need edition (part_at ss i))
  earlier : (j : ℕ) → j < i → holds edition ss j ≡ true

-- what an answer about parts that are counted on from k says
Tells : Edition → ℕ → List Step → Verdict → Type 0
Tells edition k ss verdict.Yes = (j : ℕ) → j < length ss → holds edition ss j ≡ true
Tells edition k ss (verdict.No part f) = (i : ℕ) × (part ≡ k + i) × FirstOf edition ss i f

-- with a part in front that holds
module _ (edition : Edition) (s : Step) (ss : List Step) (first : meets (step_need edition s) ss ≡ true) where
  holds-from : (n : ℕ) → ((j : ℕ) → j < n → holds edition ss j ≡ true) → (j : ℕ) → j < suc n → holds edition (s ∷ ss) j ≡ true
  unfolding holds
  holds-from n rest zero h = first
  holds-from n rest (suc j) h = rest j (omega arith)

  tells-from : (k : ℕ) (v : Verdict) → Tells edition (suc k) ss v → Tells edition k (s ∷ ss) v
  unfolding Tells
  tells-from k verdict.Yes h = holds-from (length ss) h
  tells-from k (verdict.No part f) h =
      let i = h.0 in
      let named = h.2 in (
        suc i,
        omega (arith, h.1),
        record {
          there = omega (arith, named.there);
          fails = unfold holds in named.fails;
          shows = named.shows;
          earlier = holds-from i named.earlier;
        },
      )

tells : (edition : Edition) (k : ℕ) (ss : List Step) → Tells edition k ss (first_failing edition k ss)
unfolding first_failing Tells
tells edition k [] = λ j h. absurd (omega arith)
tells edition k (s ∷ ss) =
    by-test (meets (step_need edition s) ss)
    (λ e. rw (failing-on edition k s ss e) (tells-from edition s ss e k (first_failing edition (suc k) ss) (tells edition (suc k) ss)))
    (λ e.
    rw (failing-here edition k s ss e) (
      0,
      omega arith,
      record { there = omega arith; fails = unfold holds in e; shows = refl; earlier = λ j h. absurd (omega arith) },
    ))

-- and what that says of the written text

module _ (choices : Choices) (book : Book) (current : ℕ) {ss : List Step} (fit : Fitting book ss) (i : ℕ) (there : i < length ss) where
  part-comes-back : holds choices.edition ss i ≡ true → (f : Fields) → fields_check f ≡ Ok tt → ComesBack choices book current ss f i
  unfolding holds ComesBack
  part-comes-back e f h = rw (text-from book f ss i there) (step-comes-back choices book current (fitting-from fit i there) e f (allowed f h))

  part-fails : current ≤ 9999 → holds choices.edition ss i ≡ false → ComesBack choices book current ss (witness (step_need choices.edition (part_at ss i))) i → ⊥
  unfolding holds ComesBack
  part-fails small e back =
      step-fails choices book current small (fitting-from fit i there) e (rw (text-from book (witness (step_need choices.edition (part_at ss i))) ss i there) at back)

-- the current year

year-bound : (edition : Edition) (current : ℤ) → current_year_check edition current ≡ Ok tt → nat_abs current ≤ 9999
unfolding current_year_check
year-bound edition (pos n) h =
    let first = first_current_year edition in
    leb-true n 9999 (both_true (leb first n) (leb n 9999) (fine-unless (within first 9999 n) (CurrentYear (pos n)) h)).1
year-bound edition (negsuc n) h = absurd (let z : ◌≡◌ {A = ℕ} 0 1 = cc in omega arith)

-- the answer, of any records of which each is allowed and each that is shown is one

module _ (book : Book) (valid : Valid book) (Counts : Records) (fine : (f : Fields) → Counts f → fields_check f ≡ Ok tt) (shown : (need : Need) → Counts (witness need)) where
  all-come-back : (choices : Choices) (current : ℕ) {ss : List Step} → Fitting book ss → (n : ℕ) → n ≤ length ss
      → ((j : ℕ) → j < n → holds choices.edition ss j ≡ true) → AllComeBack Counts choices book current ss n
  unfolding AllComeBack
  all-come-back choices current fit n h all f counts i k = part-comes-back choices book current fit i (omega arith) (all i k) f (fine f counts)

  fails-first : (choices : Choices) (current : ℕ) → current ≤ 9999 → {ss : List Step} → Fitting book ss → (i : ℕ) (f : Fields)
      → FirstOf choices.edition ss i f → FailsFirst Counts choices book current ss i f
  fails-first choices current small {ss} fit i f first =
      record {
        there = first.there;
        counts = rw first.shows (shown (step_need choices.edition (part_at ss i)));
        fails = λ back. part-fails choices book current fit i first.there small first.fails (rw first.shows at back);
        earlier = all-come-back choices current fit i (omega (arith, first.there)) first.earlier;
      }

  module _ (edition : Edition) (strict : Bool) (p : List ℕ) (current : ℤ) where
    answer-says : trust_check edition p current ≡ Ok tt → (v : Verdict) → Tells edition 0 (steps Full p) v
        → SaysOf Counts (full_pair edition strict) book p current (Ok v)
    unfolding Tells SaysOf
    answer-says checked verdict.Yes h =
        (checked, all-come-back (full_pair edition strict) (nat_abs current) (steps-fit book valid p) (length (steps Full p)) (omega arith) h)
    answer-says checked (verdict.No part f) h =
        let small = year-bound edition current (else-fine (pattern_check p) (current_year_check edition current) checked).1 in
        let e : part ≡ h.0 = omega (arith, h.1) in
        (checked, rw e (fails-first (full_pair edition strict) (nat_abs current) small (steps-fit book valid p) h.0 f h.2))

    pub verdict-says-of : SaysOf Counts (full_pair edition strict) book p current (verdict_of edition p current)
    unfolding verdict_of
    verdict-says-of = go (trust_check edition p current) refl
      where
        go : (c : Checked) → trust_check edition p current ≡ c
            → SaysOf Counts (full_pair edition strict) book p current (verdict_by c (first_failing edition 0 (steps Full p)))
        go (Ok _) e = answer-says e (first_failing edition 0 (steps Full p)) (tells edition 0 (steps Full p))
        go (Err why) e = unfold SaysOf in e

    -- what is said of a reading is what the check answers, but for the record
    pub told-as-checked-of : (v : Result Verdict Refusal) → SaysOf Counts (full_pair edition strict) book p current v → SameButRecord v (verdict_of edition p current)
    told-as-checked-of v says =
        answers-of-coincide Counts (full_pair edition strict) book p current v (verdict_of edition p current) says verdict-says-of

-- with every valid book, of real days and of any allowed record

module _ (book : Book) (valid : Valid book) (edition : Edition) (p : List ℕ) (current : ℤ) where
  pub verdict-says-with : SaysWith book edition p current (verdict_of edition p current)
  verdict-says-with strict = verdict-says-of book valid RealDay (λ f real. real.allowed) witness-real edition strict p current

  module _ (strict : Bool) where
    pub verdict-says-any : SaysOf AnyAllowed (full_pair edition strict) book p current (verdict_of edition p current)
    verdict-says-any = verdict-says-of book valid AnyAllowed (λ f h. h) witness-fine edition strict p current

    pub told-as-checked : (v : Result Verdict Refusal) → SaysOf RealDay (full_pair edition strict) book p current v → SameButRecord v (verdict_of edition p current)
    told-as-checked = told-as-checked-of book valid RealDay (λ f real. real.allowed) witness-real edition strict p current

    -- Nothing is lost: with any allowed record in the place of a real day's, verdict and part are the same.
    pub same-of-any : (v w : Result Verdict Refusal) → SaysOf RealDay (full_pair edition strict) book p current v
        → SaysOf AnyAllowed (full_pair edition strict) book p current w → SameButRecord v w
    same-of-any v w says says' =
        told-as-checked v says ∙ sym (told-as-checked-of book valid AnyAllowed (λ f h. h) witness-fine edition strict p current w says')

  -- so it is the same of a strict reading and of a plain one
  pub same-strict-or-not : (v w : Result Verdict Refusal) → SaysOf RealDay (full_pair edition true) book p current v
      → SaysOf RealDay (full_pair edition false) book p current w → SameButRecord v w
  same-strict-or-not v w says says' = told-as-checked true v says ∙ sym (told-as-checked false w says')

-- The promise of the check: the same answer with every valid book, so that the record shown fails with every one.
pub verdict-says : (edition : Edition) (p : List ℕ) (current : ℤ) → Says edition p current (verdict_of edition p current)
verdict-says edition p current book valid = verdict-says-with book valid edition p current

-- Demand 3 does not depend on the book: what is said with one is said with another, but for the record.
pub same-with-any-book : (edition : Edition) (p : List ℕ) (current : ℤ) (a b : Book) → Valid a → Valid b → (v w : Result Verdict Refusal)
    → SaysWith a edition p current v → SaysWith b edition p current w → SameButRecord v w
same-with-any-book edition p current a b good good' v w says says' =
    told-as-checked a good edition p current false v (says false) ∙ sym (told-as-checked b good' edition p current false w (says' false))
