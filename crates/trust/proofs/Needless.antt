-- Request [12]: no change is needless. With any one of the listed changes undone alone, the check says no.
use Rattle.std.specs.Prelude.{Ok}
use mathlib.Core.Bool.{true, false}
use mathlib.Core.List.{List, [], ◌∷◌, ◌++◌, map}
use mathlib.Core.Path.{◌≡◌, refl, sym, ap, ◌∙◌}
use Prim.Native.Nat.{ℕ, zero, suc, ◌+◌, ◌≤◌, ◌<◌}
use native.Mathlib.Omega.{arith}
use lib.Dec.{eqb}
use lib.IntN.{ℤ}
use lib.ListN.{length, get_or, replicate, drop, length-append, length-replicate}
use borrow.Author.Tests.{eqb-false}
use Rattle.meaning.specs.Answers.{pattern_check, current_year_check}
use Rattle.meaning.specs.Mending.{space, part_bytes, mend_part, change, listed, own_change, no_change, all_fit, undone_from}
use Rattle.meaning.specs.Splitting.{Content, run, quotes, quoted, unclosed, contents, length_of}
use Rattle.meaning.specs.Trust.{trust_check}
use Rattle.meaning.specs.Writing.{step_of, steps}
use Rattle.meaning.specs.declared.Change.{Change}
use Rattle.meaning.specs.declared.Edition.{Edition}
use Rattle.meaning.specs.declared.Fields.{Fields}
use Rattle.meaning.specs.declared.Pair.TheVariants.{Full}
use Rattle.meaning.specs.declared.Verdict.TheVariants.{No}
use Rattle.laws.proofs.Checks.{else-fine, pattern-fine}
use Rattle.laws.proofs.PartBytes.{joined, part_length}
use Rattle.laws.proofs.PartsApart.{start_of, Well, parts-of-joined, parts-stand-well}
use Rattle.laws.proofs.Tests.{by-test, both_true, both-are, both-no, every}
use Rattle.trust.proofs.Before.{meets-alike}
use Rattle.trust.proofs.MendedAccepted.{is_good, accepted-good, good-accepted, change-good, spaces-good}
use Rattle.trust.proofs.MendedHolds.{holds, fails-no, alike-mended, spaces-hold}
use Rattle.trust.proofs.MendedNeeds.{is_same, changed-fails, never_met}
use Rattle.trust.proofs.MendedParts.{spaces-joined, mended-joined, unspaced, change-starts, change-spaced, change-apart, change-held, well-spaced, mended-starts, mended-well}
use Rattle.trust.proofs.MendedSizes.{mended-length}
use Rattle.trust.proofs.Mending.{mended-good, accepted-checks, same-anywhere}
use Rattle.trust.proofs.Undoing.{Undoing, undo-none, undo-plain, undo-listed, undo-own, Standing, standing, change-longer}
use Rattle.trust.specs.Check.{meets, verdict_of}
use Rattle.trust.specs.Mending.{full_steps, gap, mended_bytes, mended, changes_from, changes, join_spaces, mended_parts}
use Rattle.trust.specs.Needs.{step_need}

-- The mended parts of some parts with one change less: they are still parts of their bytes, and one of them does not hold.
record Less (edition : Edition) (cs ds : List Content) : Type 0 where
  well : Well ds
  starts : start_of ds ≡ start_of cs
  good : every is_good cs ≡ true → every is_good ds ≡ true
  fails : holds edition (full_steps ds) ≡ false
  short : length (joined ds) ≤ length (mended_bytes edition cs)

same_start : (c : Content) (ds cs : List Content) → start_of (c ∷ ds) ≡ start_of (c ∷ cs)
same_start (run b n) ds cs = refl
same_start (quotes n) ds cs = refl
same_start (quoted s) ds cs = refl
same_start (unclosed s) ds cs = refl

module _ (edition : Edition) (c : Content) (cs : List Content) (w : Well (c ∷ cs)) where
  abbrev own : Content
  own = mend_part edition c

  abbrev between : ℕ
  between = gap edition c cs

  abbrev rest : List Content
  rest = mended_parts edition cs

  spaced-length : (d : Content) (k : ℕ) (ds : List Content) → length (joined (d ∷ join_spaces k ds)) ≡ length_of d + k + length (joined ds)
  unfolding joined
  spaced-length d k ds =
      rw (spaces-joined k ds)
      (omega (arith, length-append (part_bytes d) (replicate k space ++ joined ds), length-append (replicate k space) (joined ds), part_length d, length-replicate k space))

  good-each : (d : Content) (k : ℕ) (ds : List Content) → (is_good c ≡ true → is_good d ≡ true) → (every is_good cs ≡ true → every is_good ds ≡ true)
      → every is_good (c ∷ cs) ≡ true → every is_good (d ∷ join_spaces k ds) ≡ true
  unfolding every
  good-each d k ds one others h =
      let t = both_true (is_good c) (every is_good cs) h in
      both-are (is_good d) (every is_good (join_spaces k ds)) (one t.0) (spaces-good k ds (others t.1))

  fails-first : (d : Content) (ds : List Content) → meets (step_need edition (step_of Full d)) (full_steps ds) ≡ false → holds edition (full_steps (d ∷ ds)) ≡ false
  unfolding holds
  fails-first d ds e = rw e

  gap-unmet : (between ≡ 0 → ⊥) → meets (step_need edition (step_of Full own)) (full_steps (map (mend_part edition) cs)) ≡ false
  unfolding gap
  gap-unmet e =
      by-test (meets (step_need edition (step_of Full own)) (full_steps (map (mend_part edition) cs))) (λ m. absurd (e (rw m))) (λ m. m)

  unspaced-fails : (between ≡ 0 → ⊥) → holds edition (full_steps (own ∷ join_spaces 0 rest)) ≡ false
  unfolding join_spaces
  unspaced-fails e = fails-first own rest (meets-alike (step_need edition (step_of Full own)) (alike-mended edition cs) ∙ gap-unmet e)

  later-fails : (ds : List Content) → holds edition (full_steps ds) ≡ false → holds edition (full_steps (own ∷ join_spaces between ds)) ≡ false
  unfolding holds
  later-fails ds e = rw (spaces-hold edition between ds, e) (both-no (meets (step_need edition (step_of Full own)) (full_steps (join_spaces between ds))))

  -- the part's own change left out
  less-own : is_same edition c ≡ false → Less edition (c ∷ cs) (c ∷ join_spaces between rest)
  less-own e =
      record {
        well = well-spaced c between rest w.0 (rw (mended-starts edition cs) w.1) (unspaced edition c cs) (mended-well edition cs w.2);
        starts = same_start c (join_spaces between rest) cs;
        good = good-each c between rest (λ h. h) (mended-good edition cs);
        fails = fails-first c (join_spaces between rest) (never_met (step_need edition (step_of Full c)) (full_steps (join_spaces between rest)) (changed-fails edition c e));
        short = omega (arith, spaced-length c between rest, mended-length edition c cs, change-longer edition c, ap length (mended-joined edition cs));
      }

  -- the spaces behind it left out
  less-spaces : (between ≡ 0 → ⊥) → Less edition (c ∷ cs) (own ∷ join_spaces 0 rest)
  less-spaces e =
      record {
        well = well-spaced own 0 rest (change-held edition c w.0) (change-apart edition c (start_of rest) (rw (mended-starts edition cs) w.1)) (λ m. refl) (mended-well edition cs w.2);
        starts = change-starts edition c cs (join_spaces 0 rest);
        good = good-each own 0 rest (change-good edition c) (mended-good edition cs);
        fails = unspaced-fails e;
        short = omega (arith, spaced-length own 0 rest, mended-length edition c cs, ap length (mended-joined edition cs));
      }

  -- one of a later part left out
  less-later : {ds : List Content} → Less edition cs ds → Less edition (c ∷ cs) (own ∷ join_spaces between ds)
  less-later {ds} l =
      record {
        well = well-spaced own between ds (change-held edition c w.0) (change-apart edition c (start_of ds) (rw l.starts w.1))
            (λ m. unspaced edition c cs (sym (change-spaced edition c) ∙ m)) l.well;
        starts = change-starts edition c cs (join_spaces between ds);
        good = good-each own between ds (change-good edition c) l.good;
        fails = later-fails ds l.fails;
        short = omega (arith, spaced-length own between ds, mended-length edition c cs, l.short);
      }

-- Each change of a list.

abbrev Each : (Change → Type 0) → List Change → Type 0
Each Q [] = Unit
Each Q (c ∷ cs) = Q c × Each Q cs

each_append : (Q : Change → Type 0) (cs ds : List Change) → Each Q cs → Each Q ds → Each Q (cs ++ ds)
each_append Q [] ds h k = k
each_append Q (c ∷ cs) ds h k = (h.0, each_append Q cs ds h.1 k)

each_map : (Q R : Change → Type 0) → ((c : Change) → Q c → R c) → (cs : List Change) → Each Q cs → Each R cs
each_map Q R f [] h = tt
each_map Q R f (c ∷ cs) h = (f c h.0, each_map Q R f cs h.1)

each_at : (Q : Change → Type 0) (cs : List Change) → Each Q cs → (i : ℕ) → i < length cs → Q (get_or cs i no_change)
each_at Q [] h i k = absurd (omega arith)
each_at Q (c ∷ cs) h zero k = h.0
each_at Q (c ∷ cs) h (suc i) k = each_at Q cs h.1 i (omega arith)

each-listed : (Q : Change → Type 0) (c : Change) → (eqb c.before c.after ≡ false → Q c) → Each Q (listed c)
each-listed Q c h = by-test (eqb c.before c.after) (λ e. rw e tt) (λ e. rw e (h e, tt))

-- Undone alone, where the mended parts stand at a place of p, it leaves these parts with one change less.
module _ (edition : Edition) (p : List ℕ) where
  abbrev LeavesLess : ℕ → List Content → Change → Type 0
  LeavesLess at cs c = (ds : List Content) × Less edition cs ds × Undoing p at (c ∷ []) (joined ds)

  module _ (at : ℕ) (c : Content) (cs : List Content) (inside : at ≤ length p) (s : Standing edition p at c cs) (w : Well (c ∷ cs)) where
    abbrev place : ℕ
    place = at + length_of (mend_part edition c)

    abbrev spaces : ℕ
    spaces = gap edition c cs

    -- the bytes behind the part
    behind-own : drop place p ≡ joined (join_spaces spaces (mended_parts edition cs))
    behind-own = s.spaces ∙ rw (spaces-joined spaces (mended_parts edition cs), mended-joined edition cs)

    own-less : eqb (own_change edition at c).before (own_change edition at c).after ≡ false → LeavesLess at (c ∷ cs) (own_change edition at c)
    unfolding joined
    own-less d =
        let undone = undo-own edition p at c (replicate spaces space ++ mended_bytes edition cs) inside s.whole (undo-none p place) in (
          c ∷ join_spaces spaces (mended_parts edition cs),
          less-own edition c cs w (sym (same-anywhere edition at c) ∙ d),
          rw (d, behind-own) at undone,
        )

    spaces-less : eqb 0 spaces ≡ false → LeavesLess at (c ∷ cs) (change place space 0 spaces)
    unfolding joined join_spaces
    spaces-less d =
        let m = mend_part edition c in
        let text = mended_bytes edition cs in
        let alone = rw (d, s.rest, mended-joined edition cs) at (undo-listed p place space 0 spaces text (omega arith) s.near s.spaces (undo-none p (place + spaces))) in (
          m ∷ join_spaces 0 (mended_parts edition cs),
          less-spaces edition c cs w (λ e. eqb-false 0 spaces d (sym e)),
          undo-plain p at (part_bytes m) (replicate spaces space ++ text) s.whole (rw (part_length m) alone),
        )

    later-less : (one : Change) → LeavesLess (place + spaces) cs one → LeavesLess at (c ∷ cs) one
    unfolding joined
    later-less one l =
        let m = mend_part edition c in
        let text = mended_bytes edition cs in
        let spaced : Undoing p place (one ∷ []) (replicate spaces space ++ joined l.0) =
        undo-plain p place (replicate spaces space) text s.spaces (rw (length-replicate spaces space) l.2) in (
          m ∷ join_spaces spaces l.0,
          less-later edition c cs w l.1,
          rw (spaces-joined spaces l.0) (undo-plain p at (part_bytes m) (replicate spaces space ++ text) s.whole (rw (part_length m) spaced)),
        )

  each-less : (at : ℕ) (cs : List Content) → at ≤ length p → drop at p ≡ mended_bytes edition cs → Well cs → Each (LeavesLess at cs) (changes_from edition at cs)
  unfolding changes_from
  each-less at [] inside e w = tt
  each-less at (c ∷ cs) inside e w =
      let k = gap edition c cs in
      let behind = at + length_of (mend_part edition c) in
      let Q = LeavesLess at (c ∷ cs) in
      let s = standing edition p at c cs inside e in
      let own = listed (own_change edition at c) in
      let spaces = listed (change behind space 0 k) in
      let rest = changes_from edition (behind + k) cs in
      each_append Q (own ++ spaces) rest
      (each_append Q own spaces (each-listed Q (own_change edition at c) (own-less at c cs inside s w)) (each-listed Q (change behind space 0 k) (spaces-less at c cs inside s w)))
      (each_map (LeavesLess (behind + k) cs) Q (later-less at c cs inside s w) rest (each-less (behind + k) cs s.far s.rest w.2))

-- A list of one change of the mended pattern fits it, and with it undone the check says no.
pub record Needed (edition : Edition) (p : List ℕ) (current : ℤ) (c : Change) : Type 0 where
  pub fit : all_fit p 0 (c ∷ []) ≡ true
  pub part : ℕ
  pub shown : Fields
  pub no : verdict_of edition (undone_from p 0 (c ∷ [])) current ≡ Ok (No part shown)

less-no : (edition : Edition) (p : List ℕ) (current : ℤ) (cs ds : List Content) → trust_check edition p current ≡ Ok tt → every is_good cs ≡ true
    → length (mended_bytes edition cs) ≤ 256 → Less edition cs ds → (part : ℕ) × (f : Fields) × (verdict_of edition (joined ds) current ≡ Ok (No part f))
unfolding verdict_of steps
less-no edition p current cs ds h good short l =
    let a = good-accepted ds l.well (l.good good) (omega (arith, l.short, short)) in
    let found = fails-no edition 0 (full_steps ds) l.fails in
    (found.0, found.1, rw (accepted-checks edition p (joined ds) current h a, parts-of-joined ds l.well) (ap Ok found.2))

pub none-needless : (edition : Edition) (p : List ℕ) (current : ℤ) → trust_check edition p current ≡ Ok tt → length (mended edition p) ≤ 256
    → (i : ℕ) → i < length (changes edition p) → Needed edition (mended edition p) current (get_or (changes edition p) i no_change)
unfolding mended changes
none-needless edition p current h short i k =
    let cs = contents p in
    let q = mended_bytes edition cs in
    let w = parts-stand-well p in
    let a = pattern-fine p (unfold trust_check in (else-fine (pattern_check p) (current_year_check edition current) h).0) in
    let all = each-less edition q 0 cs (omega arith) refl w in
    let l = each_at (LeavesLess edition q 0 cs) (changes_from edition 0 cs) all i k in
    let no = less-no edition p current cs l.0 h (accepted-good p a w) short l.1 in
    record { fit = l.2.fit 0 (omega arith); part = no.0; shown = no.1; no = rw (l.2.undone 0 (omega arith)) no.2 }
