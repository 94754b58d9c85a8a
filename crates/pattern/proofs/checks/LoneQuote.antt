-- Refusal 3: whether the last part is a quote that opens and has nothing behind it, walked part by part to the last place;
-- and the whole check of a pattern.
use Rattle.std.specs.Prelude.{Ok, Err}
use mathlib.Core.Bool.{Bool, true, false}
use mathlib.Core.List.{List, [], ◌∷◌}
use mathlib.Core.Path.{◌≡◌, refl, sym, ap, ◌∙◌}
use Prim.Native.Nat.{ℕ, zero, suc, ◌+◌, ◌-◌, ◌≤◌, ◌<◌}
use native.Mathlib.Omega.{arith}
use lib.Dec.{eqb, ltb}
use lib.ListN.{length, get_or, drop, drop_of_length-le, length-drop}
use lib.Seq.{drop-drop}
use borrow.Author.Tests.{ltb-true, ltb-false, eq-eqb, ne_eqb, eqb-false}
use Rattle.laws.proofs.Tests.{by-test, true-is-not-false}
use Rattle.meaning.specs.Answers.{◌else◌, bytes_check, ends_in_lone_quote, pattern_check}
use Rattle.meaning.specs.Bytes.{when, both, quote}
use Rattle.meaning.specs.Splitting.{Content, unclosed, contents, inside_length, length_of}
use Rattle.meaning.specs.Results.{Checked}
use Rattle.meaning.specs.declared.Part.{Part}
use Rattle.meaning.specs.declared.Refusal.{Refusal}
use Rattle.meaning.specs.declared.Refusal.TheVariants.{LoneQuote}
use Rattle.pattern.specs.First.{inside_of, first_content, part_of, content_of}
use Rattle.pattern.specs.Next.{Next}
use Rattle.laws.proofs.Checks.{fine-short}
use Rattle.pattern.proofs.parts.First.{inside-length, by_first, contents-first}
use Rattle.pattern.proofs.parts.Next.{next}
use Rattle.pattern.proofs.parts.Scans.{from-here}

unclosed-holds : (w : List ℕ) (cs : List Content) → 0 < inside_length w → ends_in_lone_quote (unclosed w ∷ cs) ≡ false
unfolding ends_in_lone_quote
unclosed-holds [] cs h = absurd (omega arith)
unclosed-holds (b ∷ w) cs h = refl

none_left : ends_in_lone_quote (contents []) ≡ false
unfolding ends_in_lone_quote contents
none_left = refl

-- a part that does not start in the last place may be passed over
lone-behind : (s : List ℕ) → 1 < length s → ends_in_lone_quote (contents s) ≡ ends_in_lone_quote (contents (drop (length_of (first_content s)) s))
unfolding ends_in_lone_quote length_of
lone-behind s h =
    rw (contents-first s (omega arith))
    (by_first (λ c. ends_in_lone_quote (c ∷ contents (drop (length_of c) s)) ≡ ends_in_lone_quote (contents (drop (length_of c) s))) s refl refl refl
    (λ k.
    let n : 0 < inside_length (inside_of (drop 1 s)) = omega (arith, inside-length (drop 1 s), length-drop 1 s) in
    let m : length s ≤ 1 + inside_length (inside_of (drop 1 s)) = omega (arith, inside-length (drop 1 s), length-drop 1 s) in
    rw (drop_of_length-le s m) (unclosed-holds (inside_of (drop 1 s)) (contents []) n ∙ sym none_left)))

lone-byte : (b : ℕ) → ends_in_lone_quote (contents (b ∷ [])) ≡ eqb b quote
unfolding ends_in_lone_quote contents
lone-byte b = by-test (eqb b quote) (λ e. rw e) (λ e. rw e)

module _ (p : List ℕ) (at : ℕ) where
  pub lone-turn : (part : Part) → at + 1 < length p → part ≡ part_of at (first_content (drop at p))
      → ends_in_lone_quote (contents (drop at p)) ≡ ends_in_lone_quote (contents (drop (at + part.length) p))
  lone-turn part h e = rw e (lone-behind (drop at p) (rw length-drop (omega arith)) ∙ rw drop-drop)

  lone-last : length p ≤ at + 1
      → ends_in_lone_quote (contents (drop at p)) ≡ both (ltb at (length p)) (eqb (get_or p at 0) quote)
  lone-last h =
      by-test (ltb at (length p))
      (λ e. rw (e, from-here p at (ltb-true at (length p) e), drop_of_length-le p h) (lone-byte (get_or p at 0)))
      (λ e. rw (e, drop_of_length-le p (ltb-false at (length p) e)) none_left)

  pub lone-end : length p ≤ at + 1 → get_or p (length p - 1) 0 ≡ quote
      → ends_in_lone_quote (contents (drop at p)) ≡ ltb at (length p)
  lone-end h q =
      lone-last h
      ∙ by-test (ltb at (length p))
      (λ e.
      let k : at ≡ length p - 1 = omega (arith, ltb-true at (length p) e) in
      rw (e, k, eq-eqb (get_or p (length p - 1) 0) quote q)) (λ e. rw e)

-- what a turn of a walk finds is the first content of what is left
pub found-first : {p : List ℕ} {at : ℕ} {part : Part} → Next p at part → part ≡ part_of at (first_content (drop at p))
found-first {p} {at} {part} n =
    let some : 0 < length (drop at p) = omega (arith, length-drop at p, n.some, n.fits) in
    let first = contents-first (drop at p) some in
    let same : content_of p part ≡ first_content (drop at p) = cc (first, n.walk) in
    n.itself ∙ ap (part_of at) same

-- a pattern whose last byte is no quote does not end in a lone one
no-lone-from : (n : ℕ) (p : List ℕ) (at : ℕ) → length p ≤ at + n → (get_or p (length p - 1) 0 ≡ quote → ⊥)
    → ends_in_lone_quote (contents (drop at p)) ≡ false
no-lone-from zero p at h q = rw (drop_of_length-le p {i = at} (omega arith)) none_left
no-lone-from (suc n) p at h q =
    by-test (ltb (at + 1) (length p))
    (λ e.
    let part = part_of at (first_content (drop at p)) in
    let k = ltb-true (at + 1) (length p) e in
    let f = next p at part (omega arith) refl in
    lone-turn p at part k refl ∙ no-lone-from n p (at + part.length) (omega arith) q)
    (λ e.
    let k = ltb-false (at + 1) (length p) e in
    lone-last p at k
    ∙ by-test (ltb at (length p))
    (λ f.
    let g : at ≡ length p - 1 = omega (arith, ltb-true at (length p) f) in
    rw (f, g, ne_eqb (get_or p (length p - 1) 0) quote q)) (λ f. rw f))

pub no-lone : (p : List ℕ) → (get_or p (length p - 1) 0 ≡ quote → ⊥) → ends_in_lone_quote (contents p) ≡ false
no-lone p q = no-lone-from (length p) p 0 (omega arith) q

pub lone-some : (p : List ℕ) → ends_in_lone_quote (contents p) ≡ true → 0 < length p
lone-some [] e = true-is-not-false (sym e ∙ none_left)
lone-some (b ∷ p) e = omega arith

-- the whole check
module _ (p : List ℕ) where
  pub check-refused : (why : Refusal) → bytes_check p ≡ Err why → pattern_check p ≡ Err why
  unfolding pattern_check
  check-refused why e = rw e

  pub check-lone : bytes_check p ≡ Ok tt → ends_in_lone_quote (contents p) ≡ true → pattern_check p ≡ Err (LoneQuote (length p - 1))
  unfolding pattern_check
  check-lone e f = rw (e, f)

  pub check-fine : bytes_check p ≡ Ok tt → ends_in_lone_quote (contents p) ≡ false → pattern_check p ≡ Ok tt
  unfolding pattern_check
  check-fine e f = rw (e, f)

fine-behind : (c : Checked) → (c else (Ok tt)) ≡ c
fine-behind (Ok _) = refl
fine-behind (Err why) = refl

-- a pattern whose last byte is no quote is checked by its bytes alone
pub check-plain : (p : List ℕ) → eqb (get_or p (length p - 1) 0) quote ≡ false → pattern_check p ≡ bytes_check p
unfolding pattern_check
check-plain p e = rw (no-lone p (eqb-false (get_or p (length p - 1) 0) quote e)) (fine-behind (bytes_check p))

both-fine : (c : Checked) (t : Bool) (why : Refusal) → (c else when t (Err why) (Ok tt)) ≡ Ok tt → (c ≡ Ok tt) × (t ≡ false)
both-fine (Ok _) true why e = absurd (let z : ◌≡◌ {A = ℕ} 0 1 = cc in omega arith)
both-fine (Ok _) false why e = (refl, refl)
both-fine (Err r) t why e = absurd (let z : ◌≡◌ {A = ℕ} 0 1 = cc in omega arith)

-- what a caller knows of a pattern that passes
pub fine-pattern : (p : List ℕ) → pattern_check p ≡ Ok tt → (length p ≤ 256) × (ends_in_lone_quote (contents p) ≡ false)
unfolding pattern_check
fine-pattern p e =
    let f = both-fine (bytes_check p) (ends_in_lone_quote (contents p)) (LoneQuote (length p - 1)) e in
    (fine-short p f.0, f.1)
