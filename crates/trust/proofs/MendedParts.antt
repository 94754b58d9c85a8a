-- The parts of the mended pattern are those of the pattern, each with its own change, with the spaces between: they stand well
-- side by side, so that they are the parts of their bytes.
use mathlib.Core.Bool.{Bool, true, false}
use mathlib.Core.List.{List, [], ◌∷◌, ◌++◌, append_assoc}
use mathlib.Core.Path.{◌≡◌, refl, sym, ap, ◌∙◌}
use Prim.Native.Nat.{ℕ, zero, suc}
use native.Mathlib.Omega.{arith}
use lib.Dec.{eqb}
use lib.ListN.{replicate, get_or}
use borrow.Author.Tests.{eqb-true}
use Rattle.meaning.specs.Bytes.{when, quote}
use Rattle.meaning.specs.Mending.{space, mended_count, mend_part}
use Rattle.meaning.specs.Splitting.{Content, run, quotes, quoted, unclosed, join_byte, contents}
use Rattle.meaning.specs.Writing.{ends_in_quote, step_of}
use Rattle.meaning.specs.declared.Edition.{Edition}
use Rattle.laws.proofs.PartBytes.{joined, byte-joined}
use Rattle.laws.proofs.PartsApart.{Behind, nothing, byte_of, escapes, opener, start_of, no_quote_byte, is_end, apart, opening, Held, Well, parts-of-joined, well-byte, parts-stand-well}
use Rattle.laws.proofs.Tests.{by-test, true-is-not-false}
use Rattle.trust.proofs.MendedNeeds.{by-change}
use Rattle.trust.specs.Check.{meets}
use Rattle.trust.specs.Mending.{gap, mended_bytes, mended, join_spaces, mended_parts}
use Rattle.trust.specs.Needs.{step_need}

-- the bytes of the mended parts

pub spaces-joined : (k : ℕ) (cs : List Content) → joined (join_spaces k cs) ≡ replicate k space ++ joined cs
unfolding join_spaces
spaces-joined zero cs = refl
spaces-joined (suc k) cs = byte-joined space (join_spaces k cs) ∙ rw (spaces-joined k cs)

pub mended-joined : (edition : Edition) (cs : List Content) → mended_bytes edition cs ≡ joined (mended_parts edition cs)
unfolding mended_bytes mended_parts joined
mended-joined edition [] = refl
mended-joined edition (c ∷ cs) = rw (spaces-joined (gap edition c cs) (mended_parts edition cs), mended-joined edition cs, append_assoc)

-- only a run of another byte gets spaces
abbrev pub may_be_spaced : Content → Bool
may_be_spaced (run b n) = when (eqb b space) false true
may_be_spaced (quotes n) = false
may_be_spaced (quoted s) = false
may_be_spaced (unclosed s) = false

pub unspaced : (edition : Edition) (c : Content) (cs : List Content) → may_be_spaced c ≡ false → gap edition c cs ≡ 0
unfolding gap mend_part step_of step_need meets
unspaced edition (run b n) cs h =
    by-test (eqb b space) (λ e. rw (eqb-true b space e) (unfold mended_count in refl)) (λ e. true-is-not-false (rw e at h))
unspaced edition (quotes n) cs h = refl
unspaced edition (quoted s) cs h = refl
unspaced edition (unclosed s) cs h = by-test (ends_in_quote s) (λ e. rw e) (λ e. rw (e, e))

-- a part and its own change stand alike

pub change-starts : (edition : Edition) (c : Content) (cs ds : List Content) → start_of (mend_part edition c ∷ ds) ≡ start_of (c ∷ cs)
unfolding mend_part
change-starts edition (run b n) cs ds = refl
change-starts edition (quotes n) cs ds = refl
change-starts edition (quoted s) cs ds = refl
change-starts edition (unclosed s) cs ds = by-test (ends_in_quote s) (λ e. rw e) (λ e. rw e)

pub change-spaced : (edition : Edition) (c : Content) → may_be_spaced (mend_part edition c) ≡ may_be_spaced c
unfolding mend_part
change-spaced edition (run b n) = refl
change-spaced edition (quotes n) = refl
change-spaced edition (quoted s) = refl
change-spaced edition (unclosed s) = by-test (ends_in_quote s) (λ e. rw e) (λ e. rw e)

end-no-quote : (h : Behind) → is_end h ≡ true → no_quote_byte h ≡ true
end-no-quote nothing e = refl
end-no-quote (byte_of a) e = refl
end-no-quote escapes e = true-is-not-false (sym e)
end-no-quote opener e = true-is-not-false (sym e)

pub change-apart : (edition : Edition) (c : Content) (h : Behind) → apart c h ≡ true → apart (mend_part edition c) h ≡ true
unfolding mend_part
change-apart edition (run b n) h e = e
change-apart edition (quotes n) h e = e
change-apart edition (quoted s) h e = e
change-apart edition (unclosed s) h e = by-test (ends_in_quote s) (λ q. rw q (end-no-quote h e)) (λ q. rw q e)

opened : (s : List ℕ) → ends_in_quote s ≡ true → eqb (get_or s 0 0) quote ≡ false → opening s ≡ true
unfolding ends_in_quote
opened [] e h = true-is-not-false (sym e)
opened (b ∷ s) e h = rw h

pub change-held : (edition : Edition) (c : Content) → Held c → Held (mend_part edition c)
change-held edition =
    by-change edition (λ c d. Held c → Held d) (λ c e h. h) (λ f h. (omega arith, h.1)) (λ h. (omega arith, h.1)) (λ h. (omega arith, h.1))
    (λ h. (omega arith, h.1)) (λ s e h. opened s e h)

-- spaces behind a part, before parts that may stand behind it

space-starts : (cs : List Content) → start_of (join_byte space cs) ≡ byte_of space
space-starts [] = refl
space-starts (run a n ∷ cs) = by-test (eqb space a) (λ e. rw e) (λ e. rw e)
space-starts (quotes n ∷ cs) = refl
space-starts (quoted s ∷ cs) = refl
space-starts (unclosed s ∷ cs) = refl

spaced-apart : (c : Content) (k : ℕ) (cs : List Content) → may_be_spaced c ≡ true → apart c (start_of cs) ≡ true → apart c (start_of (join_spaces k cs)) ≡ true
unfolding join_spaces
spaced-apart c zero cs m h = h
spaced-apart (run b n) (suc k) cs m h = rw (space-starts (join_spaces k cs)) m
spaced-apart (quotes n) (suc k) cs m h = true-is-not-false (sym m)
spaced-apart (quoted s) (suc k) cs m h = true-is-not-false (sym m)
spaced-apart (unclosed s) (suc k) cs m h = true-is-not-false (sym m)

spaces-well : (k : ℕ) (cs : List Content) → Well cs → Well (join_spaces k cs)
unfolding join_spaces
spaces-well zero cs w = w
spaces-well (suc k) cs w = well-byte space (join_spaces k cs) refl (spaces-well k cs w)

-- a part with so many spaces, which are none where it may have none
pub well-spaced : (c : Content) (k : ℕ) (cs : List Content) → Held c → apart c (start_of cs) ≡ true → (may_be_spaced c ≡ false → k ≡ 0) → Well cs → Well (c ∷ join_spaces k cs)
well-spaced c k cs held h none w =
    by-test (may_be_spaced c) (λ m. (held, spaced-apart c k cs m h, spaces-well k cs w))
    (λ m. rw (none m) (unfold join_spaces in (held, h, w)))

pub mended-starts : (edition : Edition) (cs : List Content) → start_of (mended_parts edition cs) ≡ start_of cs
unfolding mended_parts
mended-starts edition [] = refl
mended-starts edition (c ∷ cs) = change-starts edition c cs (join_spaces (gap edition c cs) (mended_parts edition cs))

pub mended-well : (edition : Edition) (cs : List Content) → Well cs → Well (mended_parts edition cs)
unfolding mended_parts
mended-well edition [] w = tt
mended-well edition (c ∷ cs) w =
    well-spaced (mend_part edition c) (gap edition c cs) (mended_parts edition cs) (change-held edition c w.0)
    (change-apart edition c (start_of (mended_parts edition cs)) (rw (mended-starts edition cs) w.1))
    (λ m. unspaced edition c cs (sym (change-spaced edition c) ∙ m)) (mended-well edition cs w.2)

pub mended-parts : (edition : Edition) (p : List ℕ) → contents (mended edition p) ≡ mended_parts edition (contents p)
unfolding mended
mended-parts edition p =
    ap contents (mended-joined edition (contents p)) ∙ parts-of-joined (mended_parts edition (contents p)) (mended-well edition (contents p) (parts-stand-well p))
