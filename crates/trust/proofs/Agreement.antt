-- Two answers that `SaysOf` allows are the same but for the record that a no shows, whatever the names are and whichever records count.
use Rattle.std.specs.Prelude.{Ok, Err, Result}
use mathlib.Core.Bool.{false}
use mathlib.Core.List.{List}
use mathlib.Core.Path.{◌≡◌, refl, sym, ap, ◌∙◌}
use Prim.Native.Nat.{ℕ, ◌<◌}
use native.Mathlib.Omega.{arith}
use lib.Dec.{ltb}
use lib.IntN.{ℤ}
use borrow.Author.Tests.{ltb-true, ltb-false}
use Rattle.meaning.proofs.Books.{english-valid}
use Rattle.meaning.specs.Names.{Book, english}
use Rattle.meaning.specs.Trust.{Records, RealDay, AllComeBack, FailsFirst, full_pair, SaysOf, Says}
use Rattle.meaning.specs.Writing.{Step}
use Rattle.meaning.specs.Results.{Checked}
use Rattle.meaning.specs.declared.Choices.{Choices}
use Rattle.meaning.specs.declared.Edition.{Edition}
use Rattle.meaning.specs.declared.Fields.{Fields}
use Rattle.meaning.specs.declared.Refusal.{Refusal}
use Rattle.meaning.specs.declared.Verdict.{Verdict}
use Rattle.meaning.specs.declared.Verdict.TheVariants.{Yes, No}
use Rattle.laws.proofs.Tests.{by-test}

-- an answer, but for the record that a no shows
pub data Told : Type 0 where
  trusted : Told
  fails_at : ℕ → Told
  refused : Refusal → Told

abbrev pub told : Result Verdict Refusal → Told
told (Ok Yes) = trusted
told (Ok (No part f)) = fails_at part
told (Err why) = refused why

abbrev pub SameButRecord : Result Verdict Refusal → Result Verdict Refusal → Type 0
SameButRecord v w = told v ≡ told w

-- the answer yes
pub told-yes : (v : Result Verdict Refusal) → told (Ok Yes) ≡ told v → v ≡ Ok Yes
told-yes (Ok Yes) h = refl
told-yes (Ok (No part f)) h = absurd (let z : ◌≡◌ {A = ℕ} 0 1 = cc in omega arith)
told-yes (Err why) h = absurd (let z : ◌≡◌ {A = ℕ} 0 1 = cc in omega arith)

not-both : {c : Checked} {why : Refusal} → c ≡ Ok tt → c ≡ Err why → ⊥
not-both e d = let z : ◌≡◌ {A = ℕ} 0 1 = cc in omega arith

module _ {Counts : Records} {choices : Choices} {book : Book} {current : ℕ} {ss : List Step} where
  -- a part that fails is not among those that come back
  not-before : {i n : ℕ} {f : Fields} → FailsFirst Counts choices book current ss i f → AllComeBack Counts choices book current ss n → i < n → ⊥
  unfolding AllComeBack
  not-before {i} {n} {f} first all h = first.fails (all f first.counts i h)

  same-part : (i j : ℕ) {f g : Fields} → FailsFirst Counts choices book current ss i f → FailsFirst Counts choices book current ss j g → i ≡ j
  same-part i j first first' =
      by-test (ltb i j) (λ e. absurd (not-before first first'.earlier (ltb-true i j e)))
      (λ e.
      by-test (ltb j i) (λ d. absurd (not-before first' first.earlier (ltb-true j i d)))
      (λ d. omega (arith, ltb-false i j e, ltb-false j i d)))

pub answers-of-coincide : (Counts : Records) (choices : Choices) (book : Book) (p : List ℕ) (current : ℤ) (v w : Result Verdict Refusal) → SaysOf Counts choices book p current v
    → SaysOf Counts choices book p current w → SameButRecord v w
unfolding SaysOf
answers-of-coincide Counts choices book p current (Ok Yes) (Ok Yes) a b = refl
answers-of-coincide Counts choices book p current (Ok Yes) (Ok (No j g)) a b = absurd (not-before b.1 a.1 b.1.there)
answers-of-coincide Counts choices book p current (Ok Yes) (Err why) a b = absurd (not-both a.0 b)
answers-of-coincide Counts choices book p current (Ok (No i f)) (Ok Yes) a b = absurd (not-before a.1 b.1 a.1.there)
answers-of-coincide Counts choices book p current (Ok (No i f)) (Ok (No j g)) a b = ap fails_at (same-part i j a.1 b.1)
answers-of-coincide Counts choices book p current (Ok (No i f)) (Err why) a b = absurd (not-both a.0 b)
answers-of-coincide Counts choices book p current (Err why) (Ok Yes) a b = absurd (not-both b.0 a)
answers-of-coincide Counts choices book p current (Err why) (Ok (No j g)) a b = absurd (not-both b.0 a)
answers-of-coincide Counts choices book p current (Err why) (Err why') a b =
    let e : ◌≡◌ {A = Checked} (Err why) (Err why') = sym a ∙ b in
    cc

-- and so are two answers of the check
pub answers-coincide : (edition : Edition) (p : List ℕ) (current : ℤ) (v w : Result Verdict Refusal) → Says edition p current v → Says edition p current w → SameButRecord v w
answers-coincide edition p current v w a b =
    answers-of-coincide RealDay (full_pair edition false) english p current v w (a english english-valid false) (b english english-valid false)
