-- Laws of splitting: the parts take up the whole pattern, and no run is empty. How the next part is found from the pattern's
-- bytes is the crate `pattern`'s.
use mathlib.Core.Bool.{Bool, true, false}
use mathlib.Core.List.{List, [], ◌∷◌}
use mathlib.Core.Path.{◌≡◌, refl, sym, ap, ◌∙◌}
use Prim.Native.Nat.{ℕ, suc, ◌+◌}
use native.Mathlib.Omega.{arith}
use lib.Dec.{eqb, leb}
use lib.ListN.{length}
use borrow.Author.Tests.{le-leb}
use Rattle.meaning.specs.Bytes.{when, both, quote}
use Rattle.meaning.specs.Splitting.{Element, byte, escaped, single, element_of, elements, Content, run, quotes, quoted, unclosed, join_byte, join_escaped, join_inside, outside, inside, contents, length_of}
use Rattle.laws.proofs.Tests.{by-test, both_true, every, when-is, true-is-not-false}

-- how many pattern bytes elements and parts take
pub weight : List Element → ℕ
weight [] = 0
weight (byte b ∷ es) = 1 + weight es
weight (escaped ∷ es) = 2 + weight es
weight (single ∷ es) = 1 + weight es

unfoldable pub total : List Content → ℕ
total [] = 0
total (c ∷ cs) = length_of c + total cs

element-weight : (b : ℕ) (es : List Element) → weight (element_of b ∷ es) ≡ 1 + weight es
unfolding weight
element-weight b es = by-test (eqb b quote) (λ e. rw e) (λ e. rw e)

pub elements-step : (a b : ℕ) (p : List ℕ) → both (eqb a quote) (eqb b quote) ≡ false → elements (a ∷ b ∷ p) ≡ element_of a ∷ elements (b ∷ p)
unfolding elements
elements-step a b p e =
    ap (λ (t : Bool). elim t as (λ x. List Element) [ true ↦ escaped ∷ elements p | false ↦ element_of a ∷ elements (b ∷ p) ]) e

pub elements-escaped : (a b : ℕ) (p : List ℕ) → both (eqb a quote) (eqb b quote) ≡ true → elements (a ∷ b ∷ p) ≡ escaped ∷ elements p
unfolding elements
elements-escaped a b p e =
    ap (λ (t : Bool). elim t as (λ x. List Element) [ true ↦ escaped ∷ elements p | false ↦ element_of a ∷ elements (b ∷ p) ]) e

elements-weight : (p : List ℕ) → weight (elements p) ≡ length p
unfolding weight elements
elements-weight [] = refl
elements-weight (a ∷ []) = element-weight a []
elements-weight (a ∷ b ∷ p) = go (both (eqb a quote) (eqb b quote)) refl (elements-weight p) (elements-weight (b ∷ p))
  where
    go : (t : Bool) → both (eqb a quote) (eqb b quote) ≡ t → weight (elements p) ≡ length p
        → weight (elements (b ∷ p)) ≡ length (b ∷ p) → weight (elements (a ∷ b ∷ p)) ≡ length (a ∷ b ∷ p)
    go true e rest rest' = rw (elements-escaped a b p e) (omega arith)
    go false e rest rest' = rw (elements-step a b p e) (element-weight a (elements (b ∷ p)) ∙ omega arith)

-- the joins add the bytes of their element

byte-total : (b : ℕ) (cs : List Content) → total (join_byte b cs) ≡ 1 + total cs
unfolding total length_of
byte-total b [] = refl
byte-total b (run a n ∷ cs) = when-is (λ (l : List Content). total l ≡ 1 + (n + total cs)) (eqb b a) (λ e. omega arith) (λ e. omega arith)
byte-total b (quotes n ∷ cs) = refl
byte-total b (quoted s ∷ cs) = refl
byte-total b (unclosed s ∷ cs) = refl

escaped-total : (cs : List Content) → total (join_escaped cs) ≡ 2 + total cs
unfolding total length_of
escaped-total [] = refl
escaped-total (run a n ∷ cs) = refl
escaped-total (quotes n ∷ cs) = omega arith
escaped-total (quoted s ∷ cs) = refl
escaped-total (unclosed s ∷ cs) = refl

-- the first part is a quoted one
abbrev pub opens : List Content → Bool
opens [] = false
opens (run a n ∷ cs) = false
opens (quotes n ∷ cs) = false
opens (quoted s ∷ cs) = true
opens (unclosed s ∷ cs) = true

stays_open : (b : ℕ) (cs : List Content) → opens cs ≡ true → opens (join_inside b cs) ≡ true
stays_open b [] h = h
stays_open b (run a n ∷ cs) h = h
stays_open b (quotes n ∷ cs) h = h
stays_open b (quoted s ∷ cs) h = refl
stays_open b (unclosed s ∷ cs) h = refl

pub inside-opens : (es : List Element) → opens (inside es) ≡ true
unfolding inside
inside-opens [] = refl
inside-opens (byte b ∷ es) = stays_open b (inside es) (inside-opens es)
inside-opens (escaped ∷ es) = stays_open quote (inside es) (inside-opens es)
inside-opens (single ∷ es) = refl

inside-total : (b : ℕ) (cs : List Content) → opens cs ≡ true → total (join_inside b cs) ≡ when (eqb b quote) 2 1 + total cs
unfolding total length_of
inside-total b [] h = true-is-not-false (rw h)
inside-total b (run a n ∷ cs) h = true-is-not-false (rw h)
inside-total b (quotes n ∷ cs) h = true-is-not-false (rw h)
inside-total b (quoted s ∷ cs) h = omega arith
inside-total b (unclosed s ∷ cs) h = omega arith

-- no byte is a quote
abbrev is_plain : Element → Bool
is_plain (byte b) = when (eqb b quote) false true
is_plain escaped = true
is_plain single = true

plain_byte : (b : ℕ) → is_plain (byte b) ≡ true → eqb b quote ≡ false
plain_byte b h = go (eqb b quote) refl
  where
    go : (t : Bool) → eqb b quote ≡ t → eqb b quote ≡ false
    go true e = true-is-not-false (sym (rw e at h))
    go false e = e

element-plain : (b : ℕ) → is_plain (element_of b) ≡ true
element-plain b = by-test (eqb b quote) (λ e. rw e) (λ e. rw e (rw e))

elements-plain : (p : List ℕ) → every is_plain (elements p) ≡ true
unfolding elements every
elements-plain [] = refl
elements-plain (a ∷ []) = rw (element-plain a)
elements-plain (a ∷ b ∷ p) = go (both (eqb a quote) (eqb b quote)) refl (elements-plain p) (elements-plain (b ∷ p))
  where
    go : (t : Bool) → both (eqb a quote) (eqb b quote) ≡ t → every is_plain (elements p) ≡ true
        → every is_plain (elements (b ∷ p)) ≡ true → every is_plain (elements (a ∷ b ∷ p)) ≡ true
    go true e rest rest' = rw (elements-escaped a b p e) rest
    go false e rest rest' = rw (elements-step a b p e, element-plain a) rest'

mutual
  unfolding outside inside weight total every length_of

  outside-weighs : (es : List Element) → every is_plain es ≡ true → total (outside es) ≡ weight es
  outside-weighs [] h = refl
  outside-weighs (byte b ∷ es) h =
      byte-total b (outside es)
      ∙ ap (λ (n : ℕ). 1 + n) (outside-weighs es (both_true (is_plain (byte b)) (every is_plain es) h).1)
  outside-weighs (escaped ∷ es) h = escaped-total (outside es) ∙ ap (λ (n : ℕ). 2 + n) (outside-weighs es h)
  outside-weighs (single ∷ es) h = inside-weighs es h

  inside-weighs : (es : List Element) → every is_plain es ≡ true → total (inside es) ≡ 1 + weight es
  inside-weighs [] h = refl
  inside-weighs (byte b ∷ es) h =
      let t = both_true (is_plain (byte b)) (every is_plain es) h in
      inside-total b (inside es) (inside-opens es)
      ∙ rw (plain_byte b t.0) (ap (λ (n : ℕ). 1 + n) (inside-weighs es t.1))
  inside-weighs (escaped ∷ es) h =
      inside-total quote (inside es) (inside-opens es) ∙ ap (λ (n : ℕ). 2 + n) (inside-weighs es h) ∙ omega arith
  inside-weighs (single ∷ es) h = ap (λ (n : ℕ). 2 + n) (outside-weighs es h) ∙ omega arith

-- the parts take up the whole pattern
pub parts-fill : (p : List ℕ) → total (contents p) ≡ length p
unfolding contents
parts-fill p = outside-weighs (elements p) (elements-plain p) ∙ elements-weight p

-- no run is empty

abbrev pub is_some : Content → Bool
is_some (run b n) = leb 1 n
is_some (quotes n) = true
is_some (quoted s) = true
is_some (unclosed s) = true

some_byte : (b : ℕ) (cs : List Content) → every is_some cs ≡ true → every is_some (join_byte b cs) ≡ true
unfolding every
some_byte b [] h = refl
some_byte b (run a n ∷ cs) h =
    when-is (λ (l : List Content). every is_some l ≡ true) (eqb b a)
    (λ e. rw (le-leb 1 (suc n) (omega arith)) (both_true (leb 1 n) (every is_some cs) h).1) (λ e. h)
some_byte b (quotes n ∷ cs) h = h
some_byte b (quoted s ∷ cs) h = h
some_byte b (unclosed s ∷ cs) h = h

some-escaped : (cs : List Content) → every is_some cs ≡ true → every is_some (join_escaped cs) ≡ true
unfolding every
some-escaped [] h = refl
some-escaped (run a n ∷ cs) h = h
some-escaped (quotes n ∷ cs) h = h
some-escaped (quoted s ∷ cs) h = h
some-escaped (unclosed s ∷ cs) h = h

some-inside : (b : ℕ) (cs : List Content) → every is_some cs ≡ true → every is_some (join_inside b cs) ≡ true
unfolding every
some-inside b [] h = h
some-inside b (run a n ∷ cs) h = h
some-inside b (quotes n ∷ cs) h = h
some-inside b (quoted s ∷ cs) h = h
some-inside b (unclosed s ∷ cs) h = h

mutual
  unfolding outside inside every

  some-outside : (es : List Element) → every is_some (outside es) ≡ true
  some-outside [] = refl
  some-outside (byte b ∷ es) = some_byte b (outside es) (some-outside es)
  some-outside (escaped ∷ es) = some-escaped (outside es) (some-outside es)
  some-outside (single ∷ es) = some-within es

  some-within : (es : List Element) → every is_some (inside es) ≡ true
  some-within [] = refl
  some-within (byte b ∷ es) = some-inside b (inside es) (some-within es)
  some-within (escaped ∷ es) = some-inside quote (inside es) (some-within es)
  some-within (single ∷ es) = some-outside es

pub runs-are-some : (p : List ℕ) → every is_some (contents p) ≡ true
unfolding contents
runs-are-some p = some-outside (elements p)
