-- Request [12]: the check says yes to the mended pattern, and a pattern to which it says yes stays as it is. That the changes can be
-- undone is in Undoing, that none is needless in Needless, and which parts the mended pattern has in MendedParts.
use Rattle.std.specs.Prelude.{Ok, Err, Result}
use mathlib.Core.Bool.{true}
use mathlib.Core.List.{List, [], ◌∷◌}
use mathlib.Core.Path.{◌≡◌, refl, sym, ap, ◌∙◌}
use Prim.Native.Nat.{ℕ, ◌+◌, ◌≤◌}
use native.Mathlib.Omega.{arith}
use lib.Dec.{eqb, leb}
use lib.IntN.{ℤ}
use lib.ListN.{length}
use borrow.Author.Tests.{leb-true}
use Rattle.meaning.specs.Answers.{◌else◌, refuse_unless, room_check, pattern_check, current_year_check}
use Rattle.meaning.specs.Mending.{mend_part, own_change}
use Rattle.meaning.specs.Splitting.{Content, run, quotes, quoted, unclosed, contents, length_of}
use Rattle.meaning.specs.Trust.{trust_check, Says}
use Rattle.meaning.specs.Writing.{step_of, steps}
use Rattle.meaning.specs.declared.Refusal.{Refusal}
use Rattle.meaning.specs.declared.Change.{Change}
use Rattle.meaning.specs.Results.{Checked}
use Rattle.meaning.specs.declared.Edition.{Edition}
use Rattle.meaning.specs.declared.Mended.{Mended}
use Rattle.meaning.specs.declared.Pair.TheVariants.{Full}
use Rattle.meaning.specs.declared.Refusal.TheVariants.{NoRoom, MendedTooLong}
use Rattle.meaning.specs.declared.Verdict.{Verdict}
use Rattle.meaning.specs.declared.Verdict.TheVariants.{Yes}
use Rattle.laws.proofs.Checks.{Accepted, else-fine, fine-unless, pattern-fine, fine-pattern}
use Rattle.laws.proofs.Determined.{determined, same-determined}
use Rattle.laws.proofs.PartBytes.{parts-joined}
use Rattle.laws.proofs.PartsApart.{parts-stand-well}
use Rattle.laws.proofs.Tests.{by-test, true-is-not-false, both_true, both-are, every}
use Rattle.trust.proofs.Before.{meets-alike}
use Rattle.trust.proofs.MendedAccepted.{is_good, accepted-good, good-accepted, change-good, spaces-good}
use Rattle.trust.proofs.MendedHolds.{holds, holds-yes, yes-holds, alike-changed, mended-holds}
use Rattle.trust.proofs.MendedNeeds.{is_same, same-part, changed-fails, never_met}
use Rattle.trust.proofs.MendedParts.{mended-joined, mended-well, mended-parts}
use Rattle.trust.proofs.Verdicts.{verdict-says}
use Rattle.trust.specs.Check.{meets, first_failing, verdict_by, verdict_of}
use Rattle.trust.specs.Mending.{full_steps, gap, mended, changes_from, changes, join_spaces, mended_parts, mend_check, mended_by, mend, Mends}
use Rattle.trust.specs.Needs.{step_need}

-- the checks of the mended pattern

pub mended-good : (edition : Edition) (cs : List Content) → every is_good cs ≡ true → every is_good (mended_parts edition cs) ≡ true
unfolding mended_parts every
mended-good edition [] h = refl
mended-good edition (c ∷ cs) h =
    let t = both_true (is_good c) (every is_good cs) h in
    both-are (is_good (mend_part edition c)) (every is_good (join_spaces (gap edition c cs) (mended_parts edition cs)))
    (change-good edition c t.0) (spaces-good (gap edition c cs) (mended_parts edition cs) (mended-good edition cs t.1))

mended-accepted : (edition : Edition) (p : List ℕ) → Accepted p → length (mended edition p) ≤ 256 → Accepted (mended edition p)
unfolding mended
mended-accepted edition p a short =
    let cs = contents p in
    let w = parts-stand-well p in
    rw (mended-joined edition cs)
    (good-accepted (mended_parts edition cs) (mended-well edition cs w) (mended-good edition cs (accepted-good p a w)) (rw (mended-joined edition cs) at short))

-- a pattern that is accepted passes the checks in the same year
pub accepted-checks : (edition : Edition) (p q : List ℕ) (current : ℤ) → trust_check edition p current ≡ Ok tt → Accepted q → trust_check edition q current ≡ Ok tt
unfolding trust_check
accepted-checks edition p q current h a = rw (fine-pattern q a) (else-fine (pattern_check p) (current_year_check edition current) h).1

-- The check says yes to the mended pattern.
pub mended-trusted : (edition : Edition) (p : List ℕ) (current : ℤ) → trust_check edition p current ≡ Ok tt → length (mended edition p) ≤ 256
    → verdict_of edition (mended edition p) current ≡ Ok Yes
unfolding verdict_of steps
mended-trusted edition p current h short =
    let a = pattern-fine p (unfold trust_check in (else-fine (pattern_check p) (current_year_check edition current) h).0) in
    rw (accepted-checks edition p (mended edition p) current h (mended-accepted edition p a short), mended-parts edition p)
    (ap Ok (holds-yes edition 0 (full_steps (mended_parts edition (contents p))) (mended-holds edition (contents p) (parts-stand-well p))))

pub mended-says : (edition : Edition) (p : List ℕ) (current : ℤ) → trust_check edition p current ≡ Ok tt → length (mended edition p) ≤ 256
    → Says edition (mended edition p) current (Ok Yes)
mended-says edition p current h short = rw (mended-trusted edition p current h short) at (verdict-says edition (mended edition p) current)

-- A pattern to which the check says yes stays as it is: no part is changed, and none gets spaces.

pub same-anywhere : (edition : Edition) (at : ℕ) (c : Content) → eqb (own_change edition at c).before (own_change edition at c).after ≡ is_same edition c
unfolding own_change
same-anywhere edition at (run b n) = refl
same-anywhere edition at (quotes n) = refl
same-anywhere edition at (quoted s) = refl
same-anywhere edition at (unclosed s) = refl

unchanged : (edition : Edition) (c : Content) (cs : List Content) → meets (step_need edition (step_of Full c)) (full_steps cs) ≡ true → is_same edition c ≡ true
unchanged edition c cs h =
    by-test (is_same edition c) (λ e. e)
    (λ e. true-is-not-false (sym h ∙ never_met (step_need edition (step_of Full c)) (full_steps cs) (changed-fails edition c e)))

no_gap : (edition : Edition) (c : Content) (cs : List Content) → meets (step_need edition (step_of Full c)) (full_steps cs) ≡ true → gap edition c cs ≡ 0
unfolding gap
no_gap edition c cs h =
    let need = step_need edition (step_of Full c) in
    rw (same-part edition c (unchanged edition c cs h), meets-alike need (alike-changed edition cs), h)

parts_stay : (edition : Edition) (cs : List Content) → holds edition (full_steps cs) ≡ true → mended_parts edition cs ≡ cs
unfolding mended_parts holds
parts_stay edition [] h = refl
parts_stay edition (c ∷ cs) h =
    let t = both_true (meets (step_need edition (step_of Full c)) (full_steps cs)) (holds edition (full_steps cs)) h in
    rw (no_gap edition c cs t.0, same-part edition c (unchanged edition c cs t.0), parts_stay edition cs t.1) (unfold join_spaces in refl)

nothing-listed : (edition : Edition) (at : ℕ) (cs : List Content) → holds edition (full_steps cs) ≡ true → changes_from edition at cs ≡ []
unfolding changes_from holds
nothing-listed edition at [] h = refl
nothing-listed edition at (c ∷ cs) h =
    let t = both_true (meets (step_need edition (step_of Full c)) (full_steps cs)) (holds edition (full_steps cs)) h in
    let behind = at + length_of (mend_part edition c) + 0 in
    rw (same-anywhere edition at c, unchanged edition c cs t.0, no_gap edition c cs t.0) (nothing-listed edition behind cs t.1)

checked-yes : (c : Checked) (answer : Verdict) → verdict_by c answer ≡ Ok Yes → answer ≡ Yes
checked-yes (Ok _) answer h = cc
checked-yes (Err why) answer h = absurd (let z : ◌≡◌ {A = ℕ} 0 1 = cc in omega arith)

pub trusted-stays : (edition : Edition) (p : List ℕ) (current : ℤ) → verdict_of edition p current ≡ Ok Yes → (mended edition p ≡ p) × (changes edition p ≡ [])
unfolding verdict_of mended changes steps
trusted-stays edition p current h =
    let hold = yes-holds edition 0 (full_steps (contents p)) (checked-yes (trust_check edition p current) (first_failing edition 0 (full_steps (contents p))) h) in
    (mended-joined edition (contents p) ∙ rw (parts_stay edition (contents p) hold) (parts-joined p), nothing-listed edition 0 (contents p) hold)

checked-so : (c : Checked) (t : List ℕ) (cs : List Change) {m : Mended} → mended_by c t cs ≡ Ok m → c ≡ Ok tt
checked-so (Ok _) t cs h = refl
checked-so (Err why) t cs h = absurd (let z : ◌≡◌ {A = ℕ} 0 1 = cc in omega arith)

-- Of a mending that is accepted, what the laws above ask for.
pub accepted-mending : (edition : Edition) (p : List ℕ) (current : ℤ) (out : List ℕ) {m : Mended} → mend edition p current out ≡ Ok m
    → (trust_check edition p current ≡ Ok tt) × (length (mended edition p) ≤ 256) × (length (mended edition p) ≤ length out)
unfolding mend mend_check
accepted-mending edition p current out h =
    let n = length (mended edition p) in
    let long = refuse_unless (leb n 256) MendedTooLong in
    let room = room_check (length out) n in
    let a = else-fine (trust_check edition p current) (long else room) (checked-so (trust_check edition p current else long else room) (mended edition p) (changes edition p) h) in
    let b = else-fine long room a.1 in
    (a.0, leb-true n 256 (fine-unless (leb n 256) MendedTooLong b.0), leb-true n (length out) (fine-unless (leb n (length out)) (NoRoom n) b.1))

-- mending::mend
pub mends-coincide : (edition : Edition) (p : List ℕ) (current : ℤ) (out : List ℕ) {r s : Result Mended Refusal} {after after' : List ℕ}
    → Mends edition p current out r after → Mends edition p current out s after' → (r ≡ s) × (after ≡ after')
mends-coincide edition p current out w v = (same-determined w.0 v.0, determined w.1 v.1)
