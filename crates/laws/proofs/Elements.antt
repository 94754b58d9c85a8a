-- A pattern by its elements: the steps of the definitions, induction over them, and what does not join in one part.
use mathlib.Core.Bool.{true, false}
use mathlib.Core.List.{List, [], ◌∷◌}
use mathlib.Core.Path.{◌≡◌, refl, sym, ap, ◌∙◌}
use Prim.Native.Nat.{ℕ}
use lib.Dec.{eqb}
use lib.ListN.{get_or}
use borrow.Author.Tests.{eqb-true}
use Rattle.laws.proofs.Splitting.{elements-step, opens, inside-opens}
use Rattle.laws.proofs.Tests.{by-test, true-is-not-false}
use Rattle.meaning.specs.Bytes.{quote}
use Rattle.meaning.specs.Splitting.{byte, single, elements, Content, run, quotes, quoted, unclosed, join_byte, join_escaped, join_inside, outside, inside, contents}

-- elements, one by one

elements-byte : (b : ℕ) (s : List ℕ) → eqb b quote ≡ false → elements (b ∷ s) ≡ byte b ∷ elements s
unfolding elements
elements-byte b [] e = rw e
elements-byte b (a ∷ s) e = elements-step b a s (rw e) ∙ rw e

elements-single : (s : List ℕ) → eqb (get_or s 0 0) quote ≡ false → elements (quote ∷ s) ≡ single ∷ elements s
unfolding elements
elements-single [] e = refl
elements-single (b ∷ s) e = elements-step quote b s e

-- induction over a pattern by its elements: a byte, an escaped quote, a single quote
pub by-elements : (P : List ℕ → Type 0) → P [] → ((b : ℕ) (s : List ℕ) → eqb b quote ≡ false → P s → P (b ∷ s))
    → ((s : List ℕ) → P s → P (quote ∷ quote ∷ s)) → ((s : List ℕ) → eqb (get_or s 0 0) quote ≡ false → P s → P (quote ∷ s))
    → (s : List ℕ) → P s
by-elements P none' byte' pair' lone' [] = none'
by-elements P none' byte' pair' lone' (a ∷ []) =
    by-test (eqb a quote) (λ e. rw (eqb-true a quote e) (lone' [] refl none')) (λ e. byte' a [] e none')
by-elements P none' byte' pair' lone' (a ∷ b ∷ s) =
    let next : P (b ∷ s) = by-elements P none' byte' pair' lone' (b ∷ s) in
    let after : P s = by-elements P none' byte' pair' lone' s in
    by-test (eqb a quote)
    (λ e.
    by-test (eqb b quote) (λ f. rw (eqb-true a quote e, eqb-true b quote f) (pair' s after))
    (λ f. rw (eqb-true a quote e) (lone' (b ∷ s) f next)))
    (λ e. byte' a (b ∷ s) e next)

-- the contents, by the first element

pub contents-byte : (b : ℕ) (s : List ℕ) → eqb b quote ≡ false → contents (b ∷ s) ≡ join_byte b (contents s)
unfolding contents outside
contents-byte b s e = ap outside (elements-byte b s e)

pub contents-escaped : (s : List ℕ) → contents (quote ∷ quote ∷ s) ≡ join_escaped (contents s)
unfolding contents outside
contents-escaped s = refl

pub contents-single : (s : List ℕ) → eqb (get_or s 0 0) quote ≡ false → contents (quote ∷ s) ≡ inside (elements s)
unfolding contents outside
contents-single s e = ap outside (elements-single s e)

pub inside-byte : (b : ℕ) (s : List ℕ) → eqb b quote ≡ false → inside (elements (b ∷ s)) ≡ join_inside b (inside (elements s))
unfolding inside
inside-byte b s e = ap inside (elements-byte b s e)

pub inside-escaped : (s : List ℕ) → inside (elements (quote ∷ quote ∷ s)) ≡ join_inside quote (inside (elements s))
unfolding inside elements
inside-escaped s = refl

pub inside-single : (s : List ℕ) → eqb (get_or s 0 0) quote ≡ false → inside (elements (quote ∷ s)) ≡ quoted [] ∷ contents s
unfolding inside contents
inside-single s e = ap inside (elements-single s e)

-- a byte or an escaped quote does not join a part of another kind

pub byte-apart : (b a : ℕ) (cs : List Content) → eqb b a ≡ false → join_byte b (join_byte a cs) ≡ run b 1 ∷ join_byte a cs
byte-apart b a [] e = rw e
byte-apart b a (run c n ∷ cs) e = by-test (eqb a c) (λ f. rw (f, e)) (λ f. rw (f, e))
byte-apart b a (quotes n ∷ cs) e = rw e
byte-apart b a (quoted w ∷ cs) e = rw e
byte-apart b a (unclosed w ∷ cs) e = rw e

pub byte-escaped : (b : ℕ) (cs : List Content) → join_byte b (join_escaped cs) ≡ run b 1 ∷ join_escaped cs
byte-escaped b [] = refl
byte-escaped b (run c n ∷ cs) = refl
byte-escaped b (quotes n ∷ cs) = refl
byte-escaped b (quoted w ∷ cs) = refl
byte-escaped b (unclosed w ∷ cs) = refl

pub escaped-byte : (b : ℕ) (cs : List Content) → join_escaped (join_byte b cs) ≡ quotes 1 ∷ join_byte b cs
escaped-byte b [] = refl
escaped-byte b (run c n ∷ cs) = by-test (eqb b c) (λ f. rw f) (λ f. rw f)
escaped-byte b (quotes n ∷ cs) = refl
escaped-byte b (quoted w ∷ cs) = refl
escaped-byte b (unclosed w ∷ cs) = refl

byte-opened : (b : ℕ) (cs : List Content) → opens cs ≡ true → join_byte b cs ≡ run b 1 ∷ cs
byte-opened b [] h = refl
byte-opened b (run a n ∷ cs) h = true-is-not-false (sym h)
byte-opened b (quotes n ∷ cs) h = refl
byte-opened b (quoted w ∷ cs) h = refl
byte-opened b (unclosed w ∷ cs) h = refl

escaped-opened : (cs : List Content) → opens cs ≡ true → join_escaped cs ≡ quotes 1 ∷ cs
escaped-opened [] h = refl
escaped-opened (run a n ∷ cs) h = refl
escaped-opened (quotes n ∷ cs) h = true-is-not-false (sym h)
escaped-opened (quoted w ∷ cs) h = refl
escaped-opened (unclosed w ∷ cs) h = refl

pub byte-quoted : (b : ℕ) (s : List ℕ) → eqb (get_or s 0 0) quote ≡ false
    → join_byte b (contents (quote ∷ s)) ≡ run b 1 ∷ contents (quote ∷ s)
byte-quoted b s e = rw (contents-single s e) (byte-opened b (inside (elements s)) (inside-opens (elements s)))

pub escaped-quoted : (s : List ℕ) → eqb (get_or s 0 0) quote ≡ false
    → join_escaped (contents (quote ∷ s)) ≡ quotes 1 ∷ contents (quote ∷ s)
escaped-quoted s e = rw (contents-single s e) (escaped-opened (inside (elements s)) (inside-opens (elements s)))
