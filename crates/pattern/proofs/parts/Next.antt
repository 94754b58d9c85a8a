-- Laws by which a caller walks a pattern part by part: `next` turns what next_part ensures into what the part holds and what
-- is left behind it.
use mathlib.Core.List.{List, [], ◌∷◌}
use mathlib.Core.Path.{◌≡◌, refl, ap, ◌∙◌, subst⁻¹}
use Prim.Native.Nat.{ℕ, ◌+◌, ◌-◌, ◌*◌, ◌/◌, ◌≤◌, ◌<◌}
use native.Mathlib.Omega.{arith}
use lib.Dec.{eqb}
use lib.ListN.{length, get_or, take, drop, replicate, length-drop}
use lib.Seq.{drop-drop, take_all}
use borrow.Author.Tests.{eqb-true}
use Rattle.laws.proofs.Tests.{by-test}
use Rattle.meaning.specs.Splitting.{Content, run, quotes, quoted, unclosed, contents, inside_length, length_of, kind_of, parts_from}
use Rattle.meaning.specs.declared.Kind.TheVariants.{Run, Quoted, Open}
use Rattle.meaning.specs.declared.Part.{Part}
use Rattle.pattern.specs.Next.{Next}
use Rattle.pattern.specs.First.{run_length, escaped_count, inside_size, inside_of, first_content, part_of, held}
use Rattle.pattern.proofs.parts.First.{inside-length, by_first, contents-first, first-sized}
use Rattle.pattern.proofs.parts.Inside.{lost}
use Rattle.pattern.proofs.parts.Scans.{head_at}

-- A part's kind, place and length say what it holds.
part-holds : (p : List ℕ) (at : ℕ)
    → held (kind_of (first_content (drop at p))) at (length_of (first_content (drop at p))) p ≡ first_content (drop at p)
unfolding length_of inside_of
part-holds p at =
    let s = drop at p in
    let t = drop 1 s in
    let n = inside-length t in
    let h : 2 * escaped_count s / 2 ≡ escaped_count s = omega arith in
    let i : 2 + inside_length (inside_of t) - 2 ≡ inside_size t = omega arith in
    by_first (λ c. held (kind_of c) at (length_of c) p ≡ c) s (rw (head_at p at)) (rw h) (rw (← drop-drop 1 at p, i))
    (λ k. rw (← drop-drop 1 at p, take_all (inside_size t) t k))

take-run : (b : ℕ) (s : List ℕ) → take (run_length b s) s ≡ replicate (run_length b s) b
unfolding run_length
take-run b [] = refl
take-run b (a ∷ s) =
    by-test (eqb b a) (λ e. rw (e, ← eqb-true b a e) (ap (λ (l : List ℕ). b ∷ l) (take-run b s))) (λ e. rw e)

impossible : {A : Type 0} → ◌≡◌ {A = ℕ} 0 1 → A
impossible e = absurd (omega arith)

run-bytes : (s : List ℕ) → kind_of (first_content s) ≡ Run
    → take (length_of (first_content s)) s ≡ replicate (length_of (first_content s)) (get_or s 0 0)
unfolding length_of
run-bytes s =
    by_first (λ c. kind_of c ≡ Run → take (length_of c) s ≡ replicate (length_of c) (get_or s 0 0)) s
    (λ k. take-run (get_or s 0 0) s) (λ k. impossible (cc)) (λ k. impossible (cc)) (λ h k. impossible (cc))

quoted-long : (c : Content) → kind_of c ≡ Quoted → 2 ≤ length_of c
unfolding length_of
quoted-long (run b n) k = impossible (cc)
quoted-long (quotes n) k = impossible (cc)
quoted-long (quoted w) k = omega arith
quoted-long (unclosed w) k = impossible (cc)

open-whole : (s : List ℕ) → kind_of (first_content s) ≡ Open
    → (length (drop 1 s) < length_of (first_content s)) × (length (drop 1 s) ≤ inside_size (drop 1 s))
unfolding length_of
open-whole s =
    by_first (λ c. kind_of c ≡ Open → (length (drop 1 s) < length_of c) × (length (drop 1 s) ≤ inside_size (drop 1 s))) s
    (λ k. impossible (cc)) (λ k. impossible (cc)) (λ k. impossible (cc))
    (λ h k. (omega (arith, inside-length (drop 1 s)), h))

pub next : (p : List ℕ) (at : ℕ) (part : Part) → at < length p → part ≡ part_of at (first_content (drop at p)) → Next p at part
unfolding parts_from
next p at part h e =
    let c = first_content (drop at p) in
    let k : 0 < length (drop at p) = rw length-drop (omega arith) in
    let first : contents (drop at p) ≡ c ∷ contents (drop (at + length_of c) p) =
    contents-first (drop at p) k ∙ rw drop-drop in
    let sized = first-sized (drop at p) k in
    rw e
    (record {
      itself = rw (part-holds p at);
      walk = rw (part-holds p at) first;
      parts = ap (parts_from at) first;
      some = sized.0;
      fits = omega (arith, sized.1, length-drop at p);
      equal = λ r. run-bytes (drop at p) r ∙ rw head_at;
      two = quoted-long c;
      end =
          λ k. omega (arith, sized.1, (open-whole (drop at p) k).0, length-drop 1 (drop at p), length-drop at p);
      lost = λ k. rw (← drop-drop 1 at p) (lost (drop 1 (drop at p)) (open-whole (drop at p) k).1);
    })

-- a part starts where it was found
pub starts-here : {p : List ℕ} {at : ℕ} {part : Part} → Next p at part → Next p part.start part
starts-here {p} {at} {part} n = subst⁻¹ (λ (k : ℕ). Next p k part) (ap (λ (q : Part). q.start) n.itself) n
