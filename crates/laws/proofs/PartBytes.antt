-- A pattern and the bytes of its parts: a part is as long as its bytes, and the bytes of all parts are the pattern. That parts are
-- those of their bytes is in PartsApart.
use mathlib.Core.Bool.{true, false}
use mathlib.Core.List.{List, [], ◌∷◌, ◌++◌}
use mathlib.Core.Path.{◌≡◌, refl, sym}
use Prim.Native.Nat.{ℕ, suc, ◌*◌}
use native.Mathlib.Omega.{arith}
use lib.Dec.{eqb}
use lib.ListN.{length, replicate, drop, length-append, length-replicate}
use borrow.Author.Tests.{eqb-true}
use Rattle.meaning.specs.Bytes.{quote}
use Rattle.meaning.specs.Mending.{escaped_bytes, part_bytes}
use Rattle.meaning.specs.Splitting.{elements, Content, run, quotes, quoted, unclosed, join_byte, join_escaped, join_inside, inside, contents, length_of, inside_length}
use Rattle.laws.proofs.Elements.{by-elements, contents-byte, contents-escaped, contents-single, inside-byte, inside-escaped, inside-single}
use Rattle.laws.proofs.Splitting.{opens, inside-opens}
use Rattle.laws.proofs.Tests.{by-test, true-is-not-false}

-- the bytes of parts one after the other
unfoldable pub joined : List Content → List ℕ
joined [] = []
joined (c ∷ cs) = part_bytes c ++ joined cs

-- a part is as long as its bytes

escaped-length : (s : List ℕ) → length (escaped_bytes s) ≡ inside_length s
unfolding escaped_bytes
escaped-length [] = refl
escaped-length (b ∷ s) =
    by-test (eqb b quote) (λ e. rw e (omega (arith, escaped-length s))) (λ e. rw e (omega (arith, escaped-length s)))

pub part_length : (c : Content) → length (part_bytes c) ≡ length_of c
unfolding part_bytes length_of
part_length (run b n) = length-replicate n b
part_length (quotes n) = length-replicate (2 * n) quote
part_length (quoted s) = omega (arith, length-append (escaped_bytes s) (quote ∷ []), escaped-length s)
part_length (unclosed s) = omega (arith, escaped-length s)

-- The bytes of all parts are the pattern: what joins at the front adds its bytes.

pub byte-joined : (b : ℕ) (cs : List Content) → joined (join_byte b cs) ≡ b ∷ joined cs
unfolding joined part_bytes
byte-joined b [] = refl
byte-joined b (run a n ∷ cs) = by-test (eqb b a) (λ e. rw (e, eqb-true b a e)) (λ e. rw e)
byte-joined b (quotes n ∷ cs) = refl
byte-joined b (quoted s ∷ cs) = refl
byte-joined b (unclosed s ∷ cs) = refl

pub twice-more : (n : ℕ) → replicate (2 * suc n) quote ≡ quote ∷ quote ∷ replicate (2 * n) quote
twice-more n = let e : 2 * suc n ≡ suc (suc (2 * n)) = omega arith in rw e

escaped-joined : (cs : List Content) → joined (join_escaped cs) ≡ quote ∷ quote ∷ joined cs
unfolding joined part_bytes
escaped-joined [] = refl
escaped-joined (run a n ∷ cs) = refl
escaped-joined (quotes n ∷ cs) = rw (twice-more n)
escaped-joined (quoted s ∷ cs) = refl
escaped-joined (unclosed s ∷ cs) = refl

inside-joined : (b : ℕ) (cs : List Content) → eqb b quote ≡ false → opens cs ≡ true → joined (join_inside b cs) ≡ quote ∷ b ∷ drop 1 (joined cs)
unfolding joined part_bytes escaped_bytes
inside-joined b [] e h = true-is-not-false (sym h)
inside-joined b (run a n ∷ cs) e h = true-is-not-false (sym h)
inside-joined b (quotes n ∷ cs) e h = true-is-not-false (sym h)
inside-joined b (quoted s ∷ cs) e h = rw e
inside-joined b (unclosed s ∷ cs) e h = rw e

quote-joined : (cs : List Content) → opens cs ≡ true → joined (join_inside quote cs) ≡ quote ∷ quote ∷ quote ∷ drop 1 (joined cs)
unfolding joined part_bytes escaped_bytes
quote-joined [] h = true-is-not-false (sym h)
quote-joined (run a n ∷ cs) h = true-is-not-false (sym h)
quote-joined (quotes n ∷ cs) h = true-is-not-false (sym h)
quote-joined (quoted s ∷ cs) h = refl
quote-joined (unclosed s ∷ cs) h = refl

record Whole (p : List ℕ) : Type 0 where
  outer : joined (contents p) ≡ p
  inner : joined (inside (elements p)) ≡ quote ∷ p

whole : (p : List ℕ) → Whole p
whole =
    by-elements Whole
    (record { outer = unfold contents joined in refl; inner = unfold inside elements joined part_bytes escaped_bytes in refl })
    (λ b s e rest.
    record {
      outer = rw (contents-byte b s e, byte-joined b (contents s), rest.outer);
      inner = rw (inside-byte b s e, inside-joined b (inside (elements s)) e (inside-opens (elements s)), rest.inner);
    })
    (λ s rest.
    record {
      outer = rw (contents-escaped s, escaped-joined (contents s), rest.outer);
      inner = rw (inside-escaped s, quote-joined (inside (elements s)) (inside-opens (elements s)), rest.inner);
    })
    (λ s e rest.
    record {
      outer = rw (contents-single s e) rest.inner;
      inner = rw (inside-single s e) (unfold joined part_bytes escaped_bytes in (rw rest.outer));
    })

pub parts-joined : (p : List ℕ) → joined (contents p) ≡ p
parts-joined p = (whole p).outer
