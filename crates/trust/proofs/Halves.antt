-- Two half patterns and the check. The answer for the join is that for the first, before two bytes that begin as the second can,
-- and then that for the second. Where the check says yes to the join, the two texts side by side are read part by part as each
-- half reads its own, the second's further on.
use Rattle.std.specs.Prelude.{Ok, Err, Result}
use mathlib.Core.Bool.{Bool, false}
use mathlib.Core.List.{List, [], ◌∷◌, ◌++◌, map, reverse, append-nil, reverse-append}
use mathlib.Core.Path.{◌≡◌, refl, sym, ap, ◌∙◌}
use Prim.Native.Nat.{ℕ, ◌+◌}
use mathlib.Mathlib.Data.List.Basic.{map-reverse_aux}
use native.Mathlib.Nat.{add-zero}
use native.Mathlib.Omega.{arith}
use lib.IntN.{ℤ, nat_abs}
use lib.ListN.{length, length-append}
use Rattle.meaning.specs.Answers.{current_year_check, pattern_check}
use Rattle.meaning.specs.Books.{Valid}
use Rattle.meaning.specs.Names.{Book}
use Rattle.meaning.specs.Trust.{RealDay, trust_check, full_pair, SaysWith}
use Rattle.meaning.specs.Whole.{Walk, walked, walk, text}
use Rattle.meaning.specs.Writing.{Step, steps, step_text, texts}
use Rattle.meaning.specs.Results.{Checked}
use Rattle.meaning.specs.declared.Refusal.{Refusal}
use Rattle.meaning.specs.declared.Edition.{Edition}
use Rattle.meaning.specs.declared.Fields.{Fields}
use Rattle.meaning.specs.declared.Pair.TheVariants.{Full}
use Rattle.meaning.specs.declared.Verdict.{Verdict}
use Rattle.meaning.specs.declared.Verdict.TheVariants.{Yes, No}
use Rattle.laws.proofs.Halves.{check-join, steps-join, text-join}
use Rattle.laws.specs.Halves.{Beside}
use Rattle.trust.proofs.Agreement.{told-yes}
use Rattle.trust.proofs.Before.{BeginAlike, failing-join, failing-later, stand-in-alike, stand-in-holds, nothing-alike, nothing-holds, holds-alone}
use Rattle.trust.proofs.Verdicts.{verdict-says-with, told-as-checked}
use Rattle.trust.proofs.Walks.{walk-yes}
use Rattle.trust.specs.Ahead.{digit_first, digit_second}
use Rattle.trust.specs.Check.{first_failing, verdict_by, verdict_of}
use Rattle.trust.specs.Halves.{stand_in, verdict_before, later_answer, and_then, and_then_answer, further_on}
use Rattle.trust.specs.ReadBack.{gave_from, gave_by}

-- a yes of two answers

both_yes : (v w : Result Verdict Refusal) → and_then_answer v w ≡ Ok Yes → (v ≡ Ok Yes) × (w ≡ Ok Yes)
both_yes (Ok Yes) w h = (refl, h)
both_yes (Ok (No part f)) w h = absurd (let z : ◌≡◌ {A = ℕ} 0 1 = cc in omega arith)
both_yes (Err why) w h = absurd (let z : ◌≡◌ {A = ℕ} 0 1 = cc in omega arith)

later-yes : (k : ℕ) (v : Result Verdict Refusal) → later_answer k v ≡ Ok Yes → v ≡ Ok Yes
later-yes k (Ok Yes) h = refl
later-yes k (Ok (No part f)) h = absurd (let z : ◌≡◌ {A = ℕ} 0 1 = cc in omega arith)
later-yes k (Err why) h = h

yes-by : (c : Checked) (v w : Verdict) → (v ≡ Yes → w ≡ Yes) → verdict_by c v ≡ Ok Yes → verdict_by c w ≡ Ok Yes
yes-by (Ok _) v w h k = let e : v ≡ Yes = cc in ap Ok (h e)
yes-by (Err why) v w h k = k

then-answer : (v w : Verdict) → and_then_answer (Ok v) (Ok w) ≡ Ok (and_then v w)
then-answer Yes w = refl
then-answer (No part f) w = refl

yes-alone : (edition : Edition) (p : List ℕ) (ts : List Step) (current : ℤ) → verdict_before edition ts p current ≡ Ok Yes → verdict_of edition p current ≡ Ok Yes
unfolding verdict_before verdict_of
yes-alone edition p ts current =
    let ss = steps Full p in
    yes-by (trust_check edition p current) (first_failing edition 0 (ss ++ ts)) (first_failing edition 0 ss) (holds-alone edition 0 ss ts)

-- what is said with a book, and the check's own answer

says-yes : (book : Book) → Valid book → (edition : Edition) (p : List ℕ) (current : ℤ) → SaysWith book edition p current (Ok Yes) → verdict_of edition p current ≡ Ok Yes
says-yes book valid edition p current h =
    told-yes (verdict_of edition p current) (told-as-checked book valid edition p current false (Ok Yes) (h false))

yes-says : (book : Book) → Valid book → (edition : Edition) (p : List ℕ) (current : ℤ) → verdict_of edition p current ≡ Ok Yes → SaysWith book edition p current (Ok Yes)
yes-says book valid edition p current e = rw e at (verdict-says-with book valid edition p current)

-- what parts give of their texts, one after the other, and behind k bytes more

gave-append : (book : Book) (f : Fields) (at : ℕ) (ss ts : List Step)
    → gave_from book f at (ss ++ ts) ≡ gave_from book f at ss ++ gave_from book f (at + length (texts book f ss)) ts
unfolding gave_from texts
gave-append book f at [] ts = rw add-zero
gave-append book f at (s ∷ ss) ts =
    let own = step_text book f s in
    let e : at + length (own ++ texts book f ss) ≡ at + length own + length (texts book f ss) = omega (arith, length-append own (texts book f ss)) in
    rw (e, gave-append book f (at + length own) ss ts)

gave-further : (book : Book) (f : Fields) (k at : ℕ) (ss : List Step) → gave_from book f (k + at) ss ≡ map (further_on k) (gave_from book f at ss)
unfolding gave_from
gave-further book f k at [] = refl
gave-further book f k at (s ∷ ss) =
    let e : k + at + length (step_text book f s) ≡ k + (at + length (step_text book f s)) = omega arith in
    rw (e, gave-further book f k (at + length (step_text book f s)) ss)

-- the answer for the join

year-left : (edition : Edition) (p : List ℕ) (current : ℤ) → pattern_check p ≡ Ok tt → trust_check edition p current ≡ current_year_check edition current
unfolding trust_check
year-left edition p current h = rw h

before-nothing : (edition : Edition) (p : List ℕ) (current : ℤ) → verdict_before edition [] p current ≡ verdict_of edition p current
unfolding verdict_before verdict_of
before-nothing edition p current = rw (append-nil (steps Full p))

module _ (edition : Edition) {p q : List ℕ} (beside : Beside p q) (current : ℤ) where
  module _ {us : List Step} (same : BeginAlike (steps Full q) us) (hold : (j : ℕ) → first_failing edition j us ≡ Yes) where
    answers-join : (c : Checked)
        → verdict_by c (first_failing edition 0 (steps Full (p ++ q)))
        ≡ and_then_answer (verdict_by c (first_failing edition 0 (steps Full p ++ us)))
        (later_answer (length (steps Full p)) (verdict_by c (first_failing edition 0 (steps Full q))))
    answers-join (Ok _) =
        let n = length (steps Full p) in
        let e : 0 + n ≡ n + 0 = omega arith in
        rw (steps-join beside Full) (ap Ok (failing-join edition 0 (steps Full p) same hold ∙ rw (e, failing-later edition n 0 (steps Full q)) refl) ∙ sym (then-answer _ _))
    answers-join (Err why) = refl

    verdict-by : verdict_of edition (p ++ q) current ≡ and_then_answer (verdict_before edition us p current) (later_answer (length (steps Full p)) (verdict_of edition q current))
    unfolding verdict_of verdict_before
    verdict-by =
        rw (year-left edition (p ++ q) current (check-join beside), year-left edition p current beside.first, year-left edition q current beside.second)
        (answers-join (current_year_check edition current))

  -- All that the check of the join needs of the second, beside its own check, is what it begins with.
  pub verdict-join : verdict_of edition (p ++ q) current
      ≡ and_then_answer (verdict_before edition (stand_in (steps Full q)) p current) (later_answer (length (steps Full p)) (verdict_of edition q current))
  verdict-join = verdict-by (stand-in-alike (steps Full q)) (stand-in-holds edition (steps Full q))

  -- and nothing, where its first two bytes can be no digit
  pub verdict-no-digit : digit_first (steps Full q) ≡ false → digit_second (steps Full q) ≡ false
      → verdict_of edition (p ++ q) current ≡ and_then_answer (verdict_of edition p current) (later_answer (length (steps Full p)) (verdict_of edition q current))
  verdict-no-digit first second =
      verdict-by (nothing-alike (steps Full q) first second) (nothing-holds edition) ∙ rw (before-nothing edition p current)

  -- Where the check says yes to the join, it says yes to both.
  pub yes-halves : verdict_of edition (p ++ q) current ≡ Ok Yes → (verdict_of edition p current ≡ Ok Yes) × (verdict_of edition q current ≡ Ok Yes)
  yes-halves h =
      let us = stand_in (steps Full q) in
      let k = length (steps Full p) in
      let t = both_yes (verdict_before edition us p current) (later_answer k (verdict_of edition q current)) (sym verdict-join ∙ h) in
      (yes-alone edition p us current t.0, later-yes k (verdict_of edition q current) t.1)

  -- The same of what is said with a valid book.
  module _ (book : Book) (valid : Valid book) where
    pub says-halves : SaysWith book edition (p ++ q) current (Ok Yes) → SaysWith book edition p current (Ok Yes) × SaysWith book edition q current (Ok Yes)
    says-halves h =
        let t = yes-halves (says-yes book valid edition (p ++ q) current h) in
        (yes-says book valid edition p current t.0, yes-says book valid edition q current t.1)

    pub says-join : digit_first (steps Full q) ≡ false → digit_second (steps Full q) ≡ false
        → SaysWith book edition p current (Ok Yes) → SaysWith book edition q current (Ok Yes) → SaysWith book edition (p ++ q) current (Ok Yes)
    says-join first second a b =
        yes-says book valid edition (p ++ q) current (verdict-no-digit first second ∙ rw (says-yes book valid edition p current a, says-yes book valid edition q current b))

    -- Where the check says yes to the join, each half is read from its own text, and the join as the one and then the other, which
    -- stands behind the first's text, by a strict reading and by a plain one.
    module _ (strict : Bool) (says : SaysWith book edition (p ++ q) current (Ok Yes)) (f : Fields) (real : RealDay f) where
      abbrev reading : List ℕ → List ℕ → Walk
      reading pattern s = walk (full_pair edition strict) book (nat_abs current) 0 0 (steps Full pattern) s []

      abbrev one : List ℕ
      one = text Full book p f

      abbrev other : List ℕ
      other = text Full book q f

      gave-join : gave_by book f 0 (steps Full (p ++ q))
          ≡ map (further_on (length one)) (gave_by book f 0 (steps Full q)) ++ gave_by book f 0 (steps Full p)
      unfolding text
      gave-join =
          let start : 0 + length one ≡ length one + 0 = omega arith in
          ap (gave_by book f 0) (steps-join beside Full) ∙ ap reverse (gave-append book f 0 (steps Full p) (steps Full q))
          ∙ reverse-append (gave_from book f 0 (steps Full p)) (gave_from book f (0 + length one) (steps Full q))
          ∙ rw (start, gave-further book f (length one) 0 (steps Full q), map-reverse_aux (further_on (length one)) (gave_from book f 0 (steps Full q)) [])

      pub walk-join : (reading p one ≡ walked (length one) (gave_by book f 0 (steps Full p)))
          × (reading q other ≡ walked (length other) (gave_by book f 0 (steps Full q)))
          × (reading (p ++ q) (one ++ other)
          ≡ walked (length one + length other)
          (map (further_on (length one)) (gave_by book f 0 (steps Full q)) ++ gave_by book f 0 (steps Full p)))
      walk-join =
          let halves = says-halves says in (
            walk-yes RealDay (full_pair edition strict) book p current (halves.0 strict) f real,
            walk-yes RealDay (full_pair edition strict) book q current (halves.1 strict) f real,
            rw (text-join beside Full book f, length-append one other, gave-join) at (walk-yes RealDay (full_pair edition strict) book (p ++ q) current (says strict) f real),
          )
