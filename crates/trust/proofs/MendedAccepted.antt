-- The checks of a pattern by its parts: each has bytes that are allowed, and none is a lone quote. Own changes and spaces keep that.
use mathlib.Core.Bool.{Bool, true, false, not}
use mathlib.Core.List.{List, [], ◌∷◌, ◌++◌}
use mathlib.Core.Path.{◌≡◌, refl, sym, ◌∙◌}
use Prim.Native.Char.{code}
use Prim.Native.Nat.{ℕ, zero, suc, ◌≤◌}
use lib.Dec.{eqb}
use lib.ListN.{length, replicate}
use Rattle.meaning.specs.Answers.{within, ends_in_lone_quote}
use Rattle.meaning.specs.Bytes.{both, quote}
use Rattle.meaning.specs.Mending.{space, escaped_bytes, part_bytes, mend_part}
use Rattle.meaning.specs.Splitting.{Content, run, quotes, quoted, unclosed, join_byte, contents}
use Rattle.meaning.specs.declared.Edition.{Edition}
use Rattle.laws.proofs.Checks.{Accepted}
use Rattle.laws.proofs.PartBytes.{joined, parts-joined}
use Rattle.laws.proofs.PartsApart.{Well, not_end, parts-of-joined}
use Rattle.laws.proofs.Tests.{by-test, true-is-not-false, both_true, both-are, every, every_append, every-again}
use Rattle.trust.proofs.MendedNeeds.{by-change}
use Rattle.trust.specs.Mending.{join_spaces}

-- the bytes that a pattern may have
abbrev allowed : ℕ → Bool
allowed = within 1 127

abbrev is_lone : Content → Bool
is_lone (run b n) = false
is_lone (quotes n) = false
is_lone (quoted s) = false
is_lone (unclosed []) = true
is_lone (unclosed (b ∷ s)) = false

abbrev pub is_good : Content → Bool
is_good c = both (every allowed (part_bytes c)) (not (is_lone c))

every-both : (s t : List ℕ) → every allowed (s ++ t) ≡ both (every allowed s) (every allowed t)
unfolding every
every-both [] t = refl
every-both (b ∷ s) t = by-test (allowed b) (λ e. rw (e, every-both s t)) (λ e. rw e)

-- of a pattern that is accepted, and of the bytes of parts

lone-first : (c : Content) (cs : List Content) → ends_in_lone_quote (c ∷ cs) ≡ false → Well (c ∷ cs) → (is_lone c ≡ false) × (ends_in_lone_quote cs ≡ false)
unfolding ends_in_lone_quote
lone-first (run b n) cs k w = (refl, k)
lone-first (quotes n) cs k w = (refl, k)
lone-first (quoted s) cs k w = (refl, k)
lone-first (unclosed []) cs k w = true-is-not-false k
lone-first (unclosed (b ∷ s)) [] k w = (refl, refl)
lone-first (unclosed (b ∷ s)) (c ∷ cs) k w = true-is-not-false (sym w.1 ∙ not_end c cs)

parts-good : (cs : List Content) → every allowed (joined cs) ≡ true → ends_in_lone_quote cs ≡ false → Well cs → every is_good cs ≡ true
unfolding every joined
parts-good [] h k w = refl
parts-good (c ∷ cs) h k w =
    let t = both_true (every allowed (part_bytes c)) (every allowed (joined cs)) (sym (every-both (part_bytes c) (joined cs)) ∙ h) in
    let l = lone-first c cs k w in
    both-are (is_good c) (every is_good cs) (rw (t.0, l.0)) (parts-good cs t.1 l.1 w.2)

pub accepted-good : (p : List ℕ) → Accepted p → Well (contents p) → every is_good (contents p) ≡ true
accepted-good p a w = parts-good (contents p) (rw (parts-joined p) a.bytes) a.quotes w

not-lone : (c : Content) (cs : List Content) → not (is_lone c) ≡ true → ends_in_lone_quote cs ≡ false → ends_in_lone_quote (c ∷ cs) ≡ false
unfolding ends_in_lone_quote
not-lone (run b n) cs h k = k
not-lone (quotes n) cs h k = k
not-lone (quoted s) cs h k = k
not-lone (unclosed []) cs h k = true-is-not-false (sym h)
not-lone (unclosed (b ∷ s)) cs h k = refl

good-bytes : (cs : List Content) → every is_good cs ≡ true → (every allowed (joined cs) ≡ true) × (ends_in_lone_quote cs ≡ false)
unfolding every joined
good-bytes [] h = (refl, unfold ends_in_lone_quote in refl)
good-bytes (c ∷ cs) h =
    let t = both_true (is_good c) (every is_good cs) h in
    let g = both_true (every allowed (part_bytes c)) (not (is_lone c)) t.0 in
    let rest = good-bytes cs t.1 in
    (every_append allowed (part_bytes c) (joined cs) g.0 rest.0, not-lone c cs g.1 rest.1)

pub good-accepted : (cs : List Content) → Well cs → every is_good cs ≡ true → length (joined cs) ≤ 256 → Accepted (joined cs)
good-accepted cs w h short =
    let g = good-bytes cs h in
    record { short = short; bytes = g.0; quotes = rw (parts-of-joined cs w) g.1 }

-- own changes and spaces

times-good : (b n : ℕ) → is_good (run b (suc n)) ≡ true → (m : ℕ) → is_good (run b m) ≡ true
unfolding part_bytes every
times-good b n h m =
    let t = both_true (allowed b) (every allowed (replicate n b)) (both_true (every allowed (replicate (suc n) b)) true h).0 in
    rw (every-again allowed m b t.0)

closed-good : (s : List ℕ) → is_good (unclosed s) ≡ true → is_good (quoted s) ≡ true
unfolding part_bytes every
closed-good s h =
    rw (every_append allowed (quote ∷ escaped_bytes s) (quote ∷ []) (both_true (every allowed (quote ∷ escaped_bytes s)) (not (is_lone (unclosed s))) h).0 refl)

pub change-good : (edition : Edition) (c : Content) → is_good c ≡ true → is_good (mend_part edition c) ≡ true
change-good edition =
    by-change edition (λ c d. is_good c ≡ true → is_good d ≡ true) (λ c e h. h) (λ f h. times-good (code "M") 0 h 2)
    (λ h. times-good (code "y") 1 h 4) (λ h. times-good (code "y") 4 h 7) (λ h. times-good (code "y") 5 h 7) (λ s e h. closed-good s h)

space-good : (cs : List Content) → every is_good cs ≡ true → every is_good (join_byte space cs) ≡ true
unfolding every
space-good [] h = unfold part_bytes in refl
space-good (run a n ∷ cs) h =
    by-test (eqb space a)
    (λ e. rw e (both-are (is_good (run space (suc n))) (every is_good cs) (times-good space 0 (unfold part_bytes in refl) (suc n)) (both_true (is_good (run a n)) (every is_good cs) h).1))
    (λ e. rw e (unfold part_bytes in h))
space-good (quotes n ∷ cs) h = unfold part_bytes in h
space-good (quoted s ∷ cs) h = unfold part_bytes in h
space-good (unclosed s ∷ cs) h = unfold part_bytes in h

pub spaces-good : (k : ℕ) (cs : List Content) → every is_good cs ≡ true → every is_good (join_spaces k cs) ≡ true
unfolding join_spaces
spaces-good zero cs h = h
spaces-good (suc k) cs h = space-good (join_spaces k cs) (spaces-good k cs h)
