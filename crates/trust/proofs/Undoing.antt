-- Request [12]: the changes of a mended pattern fit it, and undone they give the pattern back.
use Rattle.std.specs.Prelude.{Ok}
use mathlib.Core.Bool.{true}
use mathlib.Core.List.{List, [], ◌∷◌, ◌++◌, append_assoc}
use mathlib.Core.Path.{◌≡◌, refl, sym, ap, ◌∙◌}
use Prim.Native.Nat.{ℕ, suc, ◌+◌, ◌-◌, ◌≤◌}
use native.Mathlib.Omega.{arith}
use lib.Dec.{eqb}
use lib.ListN.{length, replicate, take, drop, length-append, length-drop, length-replicate, take-append-drop}
use lib.Seq.{sets, take-add, drop-drop, drop_at, take-append_seam}
use borrow.Author.Tests.{eqb-true, eq-eqb, le-leb}
use Rattle.meaning.specs.Bytes.{quote}
use Rattle.meaning.specs.Mending.{space, escaped_bytes, part_bytes, mended_count, mend_part, change, listed, own_change, changes_of, changes_in, fits, all_fit, undone_from, undo, undo_output}
use Rattle.meaning.specs.Readers.{begins}
use Rattle.meaning.specs.Splitting.{Content, run, quotes, quoted, unclosed, contents, length_of}
use Rattle.meaning.specs.Writing.{ends_in_quote}
use Rattle.meaning.specs.declared.Change.{Change}
use Rattle.meaning.specs.declared.Edition.{Edition}
use Rattle.laws.proofs.PartBytes.{joined, part_length, parts-joined}
use Rattle.laws.proofs.Tests.{by-test}
use Rattle.trust.proofs.MendedNeeds.{by-change}
use Rattle.trust.specs.Mending.{gap, mended_bytes, mended, changes_from, changes}

-- Changes that stand behind a place of a pattern are undone to a text, however much before that place is left.
pub record Undoing (p : List ℕ) (at : ℕ) (cs : List Change) (text : List ℕ) : Type 0 where
  pub undone : (from : ℕ) → from ≤ at → undone_from p from cs ≡ take (at - from) (drop from p) ++ text
  pub fit : (from : ℕ) → from ≤ at → all_fit p from cs ≡ true

module _ (p : List ℕ) where
  rest_at : (from at : ℕ) → from ≤ at → drop (at - from) (drop from p) ≡ drop at p
  rest_at from at h = let e : from + (at - from) ≡ at = omega arith in drop-drop (at - from) from p ∙ rw e

  pub undo-none : (at : ℕ) → Undoing p at [] (drop at p)
  unfolding undone_from all_fit
  undo-none at =
      record {
        undone = λ from h. sym (rw (sym (rest_at from at h)) (take-append-drop (at - from) (drop from p)));
        fit = λ from h. refl;
      }

  -- what stands there stays
  pub undo-plain : (at : ℕ) (t r : List ℕ) {cs : List Change} {text : List ℕ} → drop at p ≡ t ++ r → Undoing p (at + length t) cs text → Undoing p at cs (t ++ text)
  undo-plain at t r {cs} {text} e u =
      record {
        undone = λ from h.
            let far : from ≤ at + length t = omega arith in
            let n : at + length t - from ≡ at - from + length t = omega arith in
            u.undone from far
            ∙ rw (n, take-add (at - from) (length t) (drop from p), rest_at from at h, e, take-append_seam t r, append_assoc);
        fit = λ from h. let far : from ≤ at + length t = omega arith in u.fit from far;
      }

  begins-own : (s r : List ℕ) → begins s (s ++ r) ≡ true
  unfolding begins
  begins-own [] r = refl
  begins-own (b ∷ s) r = rw (eq-eqb b b refl) (begins-own s r)

  -- and a change is undone

  undo-one : (at b before after : ℕ) (r : List ℕ) {cs : List Change} {text : List ℕ} → before ≤ after → at ≤ length p
      → drop at p ≡ replicate after b ++ r → Undoing p (at + after) cs text → Undoing p at (change at b before after ∷ cs) (replicate before b ++ text)
  unfolding undone_from all_fit fits
  undo-one at b before after r {cs} {text} less inside e u =
      let z : at + after - (at + after) ≡ 0 = omega arith in
      let here : at + after ≤ at + after = omega arith in
      record {
        undone = λ from h.
            rw (u.undone (at + after) here, z) (append_assoc (take (at - from) (drop from p)) (replicate before b) text);
        fit = λ from h.
            rw (le-leb from at h, le-leb at (length p) inside, le-leb before after less, e, begins-own (replicate after b) r) (u.fit (at + after) here);
      }

  pub undo-listed : (at b before after : ℕ) (r : List ℕ) {cs : List Change} {text : List ℕ} → before ≤ after → at ≤ length p
      → drop at p ≡ replicate after b ++ r → Undoing p (at + after) cs text → Undoing p at (listed (change at b before after) ++ cs) (replicate before b ++ text)
  undo-listed at b before after r less inside e u =
      by-test (eqb before after)
      (λ d.
      let n : at + after ≡ at + length (replicate after b) = omega (arith, length-replicate after b) in
      rw (d, eqb-true before after d) (undo-plain at (replicate after b) r e (rw n at u)))
      (λ d. rw d (undo-one at b before after r less inside e u))

pub change-longer : (edition : Edition) (c : Content) → length_of c ≤ length_of (mend_part edition c)
unfolding length_of
change-longer edition =
    by-change edition (λ c d. length_of c ≤ length_of d) (λ c e. omega arith) (λ f. omega arith) (omega arith) (omega arith) (omega arith) (λ s e. omega arith)

-- what stands behind a part
behind-part : (p : List ℕ) (at : ℕ) (c : Content) (r : List ℕ) → drop at p ≡ part_bytes c ++ r → drop (at + length_of c) p ≡ r
behind-part p at c r e = sym (drop-drop (length_of c) at p) ∙ rw e (drop_at (part_bytes c) r (length_of c) (part_length c))

-- the own change of a part

undo-closed : (p : List ℕ) (at : ℕ) (s r : List ℕ) {cs : List Change} {text : List ℕ} → drop at p ≡ part_bytes (quoted s) ++ r
    → Undoing p (at + length_of (quoted s)) cs text
    → Undoing p at (change (at + length_of (unclosed s)) quote 0 1 ∷ cs) (part_bytes (unclosed s) ++ text)
undo-closed p at s r e u =
    let place = at + length_of (unclosed s) in
    let open' : drop at p ≡ part_bytes (unclosed s) ++ quote ∷ r = e ∙ unfold part_bytes in append_assoc (quote ∷ escaped_bytes s) (quote ∷ []) r in
    let here : drop place p ≡ quote ∷ r = behind-part p at (unclosed s) (quote ∷ r) open' in
    let some : length (drop place p) ≡ suc (length r) = ap length here in
    let inside : place ≤ length p = omega (arith, some, length-drop place p) in
    let next : at + length_of (quoted s) ≡ place + 1 = unfold length_of in omega arith in
    let closed = undo-one p place quote 0 1 r (omega arith) inside here (rw next at u) in
    undo-plain p at (part_bytes (unclosed s)) (quote ∷ r) open' (rw (part_length (unclosed s)) closed)

pub undo-own : (edition : Edition) (p : List ℕ) (at : ℕ) (c : Content) (r : List ℕ) {cs : List Change} {text : List ℕ} → at ≤ length p
    → drop at p ≡ part_bytes (mend_part edition c) ++ r → Undoing p (at + length_of (mend_part edition c)) cs text
    → Undoing p at (listed (own_change edition at c) ++ cs) (part_bytes c ++ text)
unfolding own_change mend_part
undo-own edition p at (run b n) r inside e u =
    unfold part_bytes length_of in (undo-listed p at b n (mended_count edition b n) r (change-longer edition (run b n)) inside e u)
undo-own edition p at (quotes n) r inside e u = undo-plain p at (part_bytes (quotes n)) r e (rw (part_length (quotes n)) u)
undo-own edition p at (quoted s) r inside e u = undo-plain p at (part_bytes (quoted s)) r e (rw (part_length (quoted s)) u)
undo-own edition p at (unclosed s) r inside e u =
    by-test (ends_in_quote s) (λ q. rw q (undo-closed p at s r (rw q at e) (rw q at u)))
    (λ q. rw q (undo-plain p at (part_bytes (unclosed s)) r (rw q at e) (rw (part_length (unclosed s)) (rw q at u))))

-- where the mended bytes of a part and of those behind it stand
pub record Standing (edition : Edition) (p : List ℕ) (at : ℕ) (c : Content) (cs : List Content) : Type 0 where
  pub whole : drop at p ≡ part_bytes (mend_part edition c) ++ (replicate (gap edition c cs) space ++ mended_bytes edition cs)
  pub spaces : drop (at + length_of (mend_part edition c)) p ≡ replicate (gap edition c cs) space ++ mended_bytes edition cs
  pub rest : drop (at + length_of (mend_part edition c) + gap edition c cs) p ≡ mended_bytes edition cs
  pub near : at + length_of (mend_part edition c) ≤ length p
  pub far : at + length_of (mend_part edition c) + gap edition c cs ≤ length p

pub standing : (edition : Edition) (p : List ℕ) (at : ℕ) (c : Content) (cs : List Content) → at ≤ length p → drop at p ≡ mended_bytes edition (c ∷ cs)
    → Standing edition p at c cs
unfolding mended_bytes
standing edition p at c cs inside e =
    let m = mend_part edition c in
    let k = gap edition c cs in
    let text = mended_bytes edition cs in
    let whole : drop at p ≡ part_bytes m ++ (replicate k space ++ text) = e ∙ append_assoc (part_bytes m) (replicate k space) text in
    let spaces = behind-part p at m (replicate k space ++ text) whole in
    let long : length (drop at p) ≡ length_of m + (k + length text) =
    ap length whole ∙ omega (arith, length-append (part_bytes m) (replicate k space ++ text), part_length m, length-append (replicate k space) text, length-replicate k space) in
    record {
      whole = whole;
      spaces = spaces;
      rest = sym (drop-drop k (at + length_of m) p) ∙ rw spaces (drop_at (replicate k space) text k (length-replicate k space));
      near = omega (arith, long, length-drop at p, inside);
      far = omega (arith, long, length-drop at p, inside);
    }

undo-mended : (edition : Edition) (p : List ℕ) (at : ℕ) (cs : List Content) → at ≤ length p → drop at p ≡ mended_bytes edition cs
    → Undoing p at (changes_from edition at cs) (joined cs)
unfolding changes_from joined
undo-mended edition p at [] inside e =
    let none : drop at p ≡ [] = unfold mended_bytes in e in
    rw none at (undo-none p at)
undo-mended edition p at (c ∷ cs) inside e =
    let k = gap edition c cs in
    let behind = at + length_of (mend_part edition c) in
    let text = mended_bytes edition cs in
    let s = standing edition p at c cs inside e in
    let later = undo-mended edition p (behind + k) cs s.far s.rest in
    let spaced = undo-listed p behind space 0 k text (omega arith) s.near s.spaces later in
    rw (append_assoc (listed (own_change edition at c)) (listed (change behind space 0 k)) (changes_from edition (behind + k) cs))
    (undo-own edition p at c (replicate k space ++ text) inside s.whole spaced)

-- The changes fit the mended pattern, and undone they give the pattern.
pub changes-undone : (edition : Edition) (p : List ℕ)
    → (all_fit (mended edition p) 0 (changes edition p) ≡ true) × (undone_from (mended edition p) 0 (changes edition p) ≡ p)
unfolding mended changes
changes-undone edition p =
    let u = undo-mended edition (mended edition p) 0 (contents p) (omega arith) refl in
    (u.fit 0 (omega arith), u.undone 0 (omega arith) ∙ parts-joined p)

pub changes-listed : (cs : List Change) → changes_in (changes_of cs) ≡ cs
changes-listed cs = take-append_seam cs _

-- so the undoing answers the pattern's length, and lays the pattern into the output
pub undo-gives-back : (edition : Edition) (p out : List ℕ) → length p ≤ length out
    → (undo (mended edition p) (changes edition p) out ≡ Ok (length p)) × (undo_output (mended edition p) (changes edition p) out ≡ sets out 0 p)
unfolding undo undo_output
undo-gives-back edition p out h =
    let u = changes-undone edition p in
    (rw (u.0, u.1, le-leb (length p) (length out) h), rw (u.0, u.1, le-leb (length p) (length out) h))
