-- A part of the pattern and its own change: its bytes are the pattern's, and the change adds its byte behind them.
use Rattle.std.specs.Prelude.{Option, Some, None}
use mathlib.Core.Bool.{Bool, true}
use mathlib.Core.List.{List, ◌∷◌, ◌++◌, append-nil}
use mathlib.Core.Path.{◌≡◌, refl, sym, ap, ◌∙◌}
use Prim.Native.Char.{code}
use Prim.Native.Nat.{ℕ, zero, suc, ◌+◌, ◌-◌, ◌≤◌, ◌<◌}
use native.Mathlib.Omega.{arith}
use lib.Dec.{eqb}
use lib.ListN.{length, get_or, replicate, take, drop}
use lib.Seq.{take_at, drop-drop}
use borrow.Author.Tests.{eqb-true}
use Rattle.laws.proofs.PartBytes.{joined, part_length, parts-joined, twice-more}
use Rattle.laws.proofs.PartsApart.{Well, parts-of-joined, parts-stand-well}
use Rattle.laws.proofs.Tests.{by-test, both_true, true-is-not-false}
use Rattle.meaning.specs.Bytes.{when, both, quote}
use Rattle.meaning.specs.Mending.{part_bytes, mended_count, mend_part, change, own_change}
use Rattle.meaning.specs.Splitting.{Content, run, quotes, quoted, unclosed, contents, length_of}
use Rattle.meaning.specs.Writing.{Step, ends_in_quote, step_of, steps}
use Rattle.meaning.specs.declared.Edition.{Edition}
use Rattle.meaning.specs.declared.Kind.TheVariants.{Run, Quotes, Quoted, Open}
use Rattle.meaning.specs.declared.Pair.TheVariants.{Full}
use Rattle.meaning.specs.declared.Part.{Part}
use Rattle.mending.specs.Asked.{passed_over}
use Rattle.pattern.proofs.parts.Scans.{head_at}
use Rattle.pattern.proofs.parts.Walks.{part-long}
use Rattle.pattern.specs.First.{content_of}
use Rattle.pattern.specs.Next.{Next}
use Rattle.trust.proofs.Before.{meets-alike}
use Rattle.trust.proofs.MendedHolds.{alike-changed}
use Rattle.trust.proofs.MendedNeeds.{is_same, by-change}
use Rattle.trust.proofs.Turns.{unmet-on, unmet-here, unmet-done}
use Rattle.trust.proofs.Undoing.{change-longer}
use Rattle.trust.specs.Check.{meets, first_unmet}
use Rattle.trust.specs.Mending.{spaces_for, spaces_before, gap}
use Rattle.trust.specs.Needs.{step_need}
use Rattle.trust.specs.declared.Unmet.{Unmet}

replicate-add : (b n k : ℕ) → replicate (n + k) b ≡ replicate n b ++ replicate k b
replicate-add b zero k = let e : 0 + k ≡ k = omega arith in rw e
replicate-add b (suc n) k = let e : suc n + k ≡ suc (n + k) = omega arith in rw e (ap (λ (l : List ℕ). b ∷ l) (replicate-add b n k))

replicate_more : (b n m : ℕ) → n ≤ m → replicate m b ≡ replicate n b ++ replicate (m - n) b
replicate_more b n m h = let e : n + (m - n) ≡ m = omega arith in rw e at (replicate-add b n (m - n))

pub count-grows : (edition : Edition) (b n : ℕ) → n ≤ mended_count edition b n
unfolding length_of mend_part
count-grows edition b n = change-longer edition (run b n)

module _ (edition : Edition) (at : ℕ) where
  pub own-grows : (c : Content) → (own_change edition at c).before ≤ (own_change edition at c).after
  unfolding own_change
  own-grows (run b n) = count-grows edition b n
  own-grows (quotes n) = omega arith
  own-grows (quoted s) = omega arith
  own-grows (unclosed s) = omega arith

  pub own-bytes : (c : Content)
      → part_bytes (mend_part edition c) ≡ part_bytes c ++ replicate ((own_change edition at c).after - (own_change edition at c).before) (own_change edition at c).byte
  unfolding own_change mend_part
  own-bytes (run b n) =
      unfold part_bytes in replicate_more b n (mended_count edition b n) (count-grows edition b n)
  own-bytes (quotes n) = sym (append-nil (part_bytes (quotes n)))
  own-bytes (quoted s) = sym (append-nil (part_bytes (quoted s)))
  own-bytes (unclosed s) = by-test (ends_in_quote s) (λ e. rw e (unfold part_bytes in refl)) (λ e. rw e (sym (append-nil (part_bytes (unclosed s)))))

  pub own-length : (c : Content) → length_of (mend_part edition c) ≡ length_of c + ((own_change edition at c).after - (own_change edition at c).before)
  unfolding own_change mend_part length_of
  own-length (run b n) = omega (arith, count-grows edition b n)
  own-length (quotes n) = omega arith
  own-length (quoted s) = omega arith
  own-length (unclosed s) = by-test (ends_in_quote s) (λ e. rw e (omega arith)) (λ e. rw e (omega arith))

-- what next_part finds

part-before : {p : List ℕ} {at : ℕ} {part : Part} → Next p at part → drop at p ≡ part_bytes (content_of p part) ++ drop (at + part.length) p
unfolding joined
part-before {p} {at} {part} n = sym (parts-joined (drop at p)) ∙ ap joined n.walk ∙ rw (parts-joined (drop (at + part.length) p))

pub part_bytes_lem : {p : List ℕ} {at : ℕ} {part : Part} → Next p at part → part_bytes (content_of p part) ≡ take part.length (drop at p)
part_bytes_lem {p} {at} {part} n =
    let c = content_of p part in
    let behind = drop (at + part.length) p in
    sym (rw (part-before n) (take_at (part_bytes c) behind part.length (part_length c ∙ part-long n)))

-- the own change of a part of each kind

module _ (edition : Edition) (at : ℕ) {p : List ℕ} {part : Part} (n : Next p part.start part) where
  pub own-run : part.kind ≡ Run → own_change edition at (content_of p part) ≡ change at (get_or p part.start 0) part.length (mended_count edition (get_or p part.start 0) part.length)
  unfolding own_change
  own-run k = rw k

  pub own-quotes : part.kind ≡ Quotes → own_change edition at (content_of p part) ≡ change (at + part.length) quote 0 0
  unfolding own_change
  own-quotes k =
      let e : own_change edition at (content_of p part) ≡ change (at + length_of (content_of p part)) quote 0 0 = rw k in
      e ∙ rw (part-long n)

  pub own-quoted : part.kind ≡ Quoted → own_change edition at (content_of p part) ≡ change (at + part.length) quote 0 0
  unfolding own_change
  own-quoted k =
      let e : own_change edition at (content_of p part) ≡ change (at + length_of (content_of p part)) quote 0 0 = rw k in
      e ∙ rw (part-long n)

  pub own_open : part.kind ≡ Open → (t : Bool) → eqb (get_or (drop (part.start + 1) p) (length (drop (part.start + 1) p) - 1) 0) quote ≡ t
      → own_change edition at (content_of p part) ≡ change (at + part.length) quote 0 (when t 1 0)
  unfolding own_change
  own_open k t e =
      let d : own_change edition at (content_of p part) ≡ change (at + length_of (content_of p part)) quote 0 (when t 1 0) = rw (k, (n.lost k).told, e) in
      d ∙ rw (part-long n)

-- the part that the check is asked about stands behind what is passed over

abbrev asked : Content → Content
asked (run b n) = run b (n - passed_over b n)
asked (quotes n) = quotes n
asked (quoted s) = quoted s
asked (unclosed s) = unclosed s

pub passed-less : (b n : ℕ) → 0 < n → passed_over b n < n
passed-less b n h =
    by-test (both (eqb b (code "y")) (eqb n 2))
    (λ e. let two = eqb-true n 2 (both_true (eqb b (code "y")) (eqb n 2) e).1 in rw e (omega arith)) (λ e. rw e h)

second-by-itself : (b : ℕ) (q : List ℕ) → Well (run b 2 ∷ contents q) → contents (b ∷ q) ≡ run b 1 ∷ contents q
unfolding joined part_bytes
second-by-itself b q w =
    let whole = parts-of-joined (run b 1 ∷ contents q) ((omega arith, w.0.1), w.1, w.2) in
    rw (parts-joined q) at whole

run-asked : (b n : ℕ) (p q : List ℕ) → p ≡ part_bytes (run b n) ++ q → contents p ≡ run b n ∷ contents q
    → contents (drop (passed_over b n) p) ≡ asked (run b n) ∷ contents q
run-asked b n p q bytes walk =
    by-test (both (eqb b (code "y")) (eqb n 2))
    (λ e.
    let two = eqb-true n 2 (both_true (eqb b (code "y")) (eqb n 2) e).1 in
    let well = rw (walk, two) at (parts-stand-well p) in
    rw (e, bytes, two) (unfold part_bytes in (second-by-itself b q well)))
    (λ e. let all : n - 0 ≡ n = omega arith in rw (e, all) walk)

-- the place and the length of what the check is asked about
module _ (p q : List ℕ) where
  abbrev Asked : Content → ℕ → Type 0
  Asked c k = (contents (drop k p) ≡ asked c ∷ contents q) × (length_of (asked c) ≡ length_of c - k)

  quote-asked : (c : Content) → asked c ≡ c → contents p ≡ c ∷ contents q → get_or p 0 0 ≡ quote → Asked c (passed_over (get_or p 0 0) (length_of c))
  quote-asked c same walk first = rw (first, same) (walk, omega arith)

  asked_here : (c : Content) → 0 < length_of c → p ≡ part_bytes c ++ q → contents p ≡ c ∷ contents q → Asked c (passed_over (get_or p 0 0) (length_of c))
  unfolding length_of
  asked_here (run b zero) some bytes walk = absurd (omega arith)
  asked_here (run b (suc n)) some bytes walk =
      let first : get_or p 0 0 ≡ b = rw bytes (unfold part_bytes in refl) in
      rw first (run-asked b (suc n) p q bytes walk, refl)
  asked_here (quotes zero) some bytes walk = absurd (omega arith)
  asked_here (quotes (suc n)) some bytes walk =
      quote-asked (quotes (suc n)) refl walk (rw bytes (unfold part_bytes in (rw (twice-more n))))
  asked_here (quoted s) some bytes walk = quote-asked (quoted s) refl walk (rw bytes (unfold part_bytes in refl))
  asked_here (unclosed s) some bytes walk = quote-asked (unclosed s) refl walk (rw bytes (unfold part_bytes in refl))

-- and needs as many spaces as the part after its own change

unchanged-asked : (edition : Edition) (c : Content) → is_same edition c ≡ true → asked c ≡ c
unfolding own_change mended_count
unchanged-asked edition (run b n) same =
    by-test (both (eqb b (code "y")) (eqb n 2))
    (λ e.
    let t = both_true (eqb b (code "y")) (eqb n 2) e in
    true-is-not-false (sym (rw (eqb-true b (code "y") t.0, eqb-true n 2 t.1) at same)))
    (λ e. let all : n - 0 ≡ n = omega arith in rw (e, all))
unchanged-asked edition (quotes n) same = refl
unchanged-asked edition (quoted s) same = refl
unchanged-asked edition (unclosed s) same = refl

module _ (edition : Edition) (behind : List Step) where
  abbrev spaces : Content → ℕ
  spaces c = spaces_before (step_need edition (step_of Full c)) behind

  spaces-asked : (c : Content) → spaces (mend_part edition c) ≡ spaces (asked c)
  unfolding step_of step_need meets
  spaces-asked =
      by-change edition (λ c d. spaces d ≡ spaces (asked c)) (λ c same. rw (unchanged-asked edition c same)) (λ first. rw first) refl refl refl
      (λ s ends. rw ends)

gap-asked : (edition : Edition) (c : Content) (q : List ℕ)
    → gap edition c (contents q) ≡ spaces_before (step_need edition (step_of Full (asked c))) (steps Full q)
unfolding gap steps
gap-asked edition c q =
    let need = step_need edition (step_of Full (mend_part edition c)) in
    rw (meets-alike need (alike-changed edition (contents q))) (spaces-asked edition (steps Full q) c)

-- the answer of the check for this one part

abbrev pub spaces_of : Option Unmet → ℕ
spaces_of None = 0
spaces_of (Some unmet) = spaces_for unmet.need

one-unmet : (edition : Edition) (n : ℕ) (c : Content) (q : List ℕ) → 0 < n → n ≤ length_of c
    → spaces_of (first_unmet edition n 0 (c ∷ contents q)) ≡ spaces_before (step_need edition (step_of Full c)) (steps Full q)
unfolding steps
one-unmet edition n c q some one =
    let done : n - length_of c ≡ 0 = omega arith in
    by-test (meets (step_need edition (step_of Full c)) (steps Full q))
    (λ e. rw (unmet-on edition n 0 c (contents q) some e, done, unmet-done edition 1 (contents q), e))
    (λ e. rw (unmet-here edition n 0 c (contents q) some e, e))

-- and so of any part, by what was passed over and what was found
module _ (edition : Edition) {p : List ℕ} {part : Part} (n : Next p part.start part) where
  pub gap-found : (passed : ℕ) → passed ≡ passed_over (get_or p part.start 0) part.length → (unmet : Option Unmet)
      → unmet ≡ first_unmet edition (part.start + part.length - (part.start + passed)) 0 (contents (drop (part.start + passed) p))
      → gap edition (content_of p part) (contents (drop (part.start + part.length) p)) ≡ spaces_of unmet
  gap-found passed told unmet found =
      let c = content_of p part in
      let q = drop (part.start + part.length) p in
      let less = passed-less (get_or p part.start 0) part.length n.some in
      let all = asked_here (drop part.start p) q c (rw (part-long n) n.some) (part-before n) n.walk in
      let here = rw (head_at p part.start, part-long n, ← told) at all in
      let one = one-unmet edition (part.start + part.length - (part.start + passed)) (asked c) q in
      rw (found, ← drop-drop passed part.start p, here.0) (gap-asked edition c q ∙ sym (one (omega (arith, less)) (omega (arith, here.1))))
