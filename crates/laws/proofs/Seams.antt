-- The parts of two patterns side by side are those of the one and then those of the other.
use mathlib.Core.Bool.{true, false}
use mathlib.Core.List.{List, [], ◌∷◌, ◌++◌, append-nil}
use mathlib.Core.Path.{◌≡◌, refl, sym, ap, ◌∙◌}
use Prim.Native.Nat.{ℕ}
use native.Mathlib.Omega.{arith}
use lib.Dec.{eqb}
use lib.ListN.{get_or}
use borrow.Author.Tests.{eqb-false, ne_eqb}
use Rattle.meaning.specs.Answers.{ends_in_lone_quote}
use Rattle.meaning.specs.Bytes.{quote}
use Rattle.meaning.specs.Splitting.{elements, Content, run, quotes, quoted, unclosed, join_byte, join_escaped, join_inside, inside, contents}
use Rattle.laws.specs.Halves.{ends_open, starts_quoted, meet_equal}
use Rattle.laws.proofs.Elements.{by-elements, contents-byte, contents-escaped, contents-single, inside-byte, inside-escaped, inside-single, byte-apart, byte-escaped, escaped-byte, byte-quoted, escaped-quoted}
use Rattle.laws.proofs.Splitting.{opens, inside-opens, total, parts-fill}
use Rattle.laws.proofs.Tests.{by-test, true-is-not-false}

-- what joins at the front leaves the end as it is

open-byte : (b : ℕ) (cs : List Content) → ends_open (join_byte b cs) ≡ ends_open cs
unfolding ends_open
open-byte b [] = refl
open-byte b (run a n ∷ cs) = by-test (eqb b a) (λ e. rw e) (λ e. rw e)
open-byte b (quotes n ∷ cs) = refl
open-byte b (quoted s ∷ cs) = refl
open-byte b (unclosed s ∷ cs) = refl

open-escaped : (cs : List Content) → ends_open (join_escaped cs) ≡ ends_open cs
unfolding ends_open
open-escaped [] = refl
open-escaped (run a n ∷ cs) = refl
open-escaped (quotes n ∷ cs) = refl
open-escaped (quoted s ∷ cs) = refl
open-escaped (unclosed s ∷ cs) = refl

open-inside : (b : ℕ) (cs : List Content) → ends_open (join_inside b cs) ≡ ends_open cs
unfolding ends_open
open-inside b [] = refl
open-inside b (run a n ∷ cs) = refl
open-inside b (quotes n ∷ cs) = refl
open-inside b (quoted s ∷ cs) = refl
open-inside b (unclosed s ∷ cs) = refl

-- what joins at the front does so before more parts too, if there is a part that it can join or those are of another kind

byte-before : (b : ℕ) (cs ds : List Content) → (cs ≡ [] → join_byte b ds ≡ run b 1 ∷ ds) → join_byte b (cs ++ ds) ≡ join_byte b cs ++ ds
byte-before b [] ds h = h refl
byte-before b (run a n ∷ cs) ds h = by-test (eqb b a) (λ e. rw e) (λ e. rw e)
byte-before b (quotes n ∷ cs) ds h = refl
byte-before b (quoted s ∷ cs) ds h = refl
byte-before b (unclosed s ∷ cs) ds h = refl

escaped-before : (cs ds : List Content) → (cs ≡ [] → join_escaped ds ≡ quotes 1 ∷ ds) → join_escaped (cs ++ ds) ≡ join_escaped cs ++ ds
escaped-before [] ds h = h refl
escaped-before (run a n ∷ cs) ds h = refl
escaped-before (quotes n ∷ cs) ds h = refl
escaped-before (quoted s ∷ cs) ds h = refl
escaped-before (unclosed s ∷ cs) ds h = refl

inside-before : (b : ℕ) (cs ds : List Content) → opens cs ≡ true → join_inside b (cs ++ ds) ≡ join_inside b cs ++ ds
inside-before b [] ds h = true-is-not-false (sym h)
inside-before b (run a n ∷ cs) ds h = refl
inside-before b (quotes n ∷ cs) ds h = refl
inside-before b (quoted s ∷ cs) ds h = refl
inside-before b (unclosed s ∷ cs) ds h = refl

-- a byte and an escaped quote that the pattern behind them does not start with stand alone

byte-alone : (b : ℕ) (q : List ℕ) → meet_equal (b ∷ []) q ≡ false → join_byte b (contents q) ≡ run b 1 ∷ contents q
byte-alone b =
    by-elements (λ q. meet_equal (b ∷ []) q ≡ false → join_byte b (contents q) ≡ run b 1 ∷ contents q) (λ h. unfold contents in refl)
    (λ a s e _ h. rw (contents-byte a s e) (byte-apart b a (contents s) (unfold meet_equal in h)))
    (λ s _ h. rw (contents-escaped s) (byte-escaped b (contents s))) (λ s e _ h. byte-quoted b s e)

escaped-alone : (q : List ℕ) → meet_equal (quote ∷ []) q ≡ false → join_escaped (contents q) ≡ quotes 1 ∷ contents q
escaped-alone =
    by-elements (λ q. meet_equal (quote ∷ []) q ≡ false → join_escaped (contents q) ≡ quotes 1 ∷ contents q) (λ h. unfold contents in refl)
    (λ a s e _ h. rw (contents-byte a s e) (escaped-byte a (contents s)))
    (λ s _ h. true-is-not-false (unfold meet_equal in h)) (λ s e _ h. escaped-quoted s e)

-- a pattern with no part is empty, so that the byte before it is the last
last_byte : (b : ℕ) (s q : List ℕ) → meet_equal (b ∷ s) q ≡ false → contents s ≡ [] → meet_equal (b ∷ []) q ≡ false
unfolding total
last_byte b [] q h e = h
last_byte b (a ∷ s) q h e = absurd (let none : total (contents (a ∷ s)) ≡ 0 = ap total e in omega (arith, none, parts-fill (a ∷ s)))

-- without its first byte
apart-behind : (b : ℕ) (s q : List ℕ) → meet_equal (b ∷ s) q ≡ false → meet_equal s q ≡ false
unfolding meet_equal
apart-behind b [] q h = refl
apart-behind b (a ∷ s) q h = h

-- no quote behind a quote
no-quote : (s q : List ℕ) → eqb (get_or s 0 0) quote ≡ false → meet_equal (quote ∷ s) q ≡ false → eqb (get_or (s ++ q) 0 0) quote ≡ false
unfolding meet_equal
no-quote [] [] e h = e
no-quote [] (b ∷ q) e h = ne_eqb b quote (λ d. eqb-false quote b h (sym d))
no-quote (a ∷ s) q e h = e

-- a pattern before q, and what stands before it behind a quote that opens
record Joins (q p : List ℕ) : Type 0 where
  outer : ends_open (contents p) ≡ false → contents (p ++ q) ≡ contents p ++ contents q
  inner : ends_open (inside (elements p)) ≡ false → inside (elements (p ++ q)) ≡ inside (elements p) ++ contents q

module _ (q : List ℕ) where
  joins-none : Joins q []
  joins-none =
      record {
        outer = λ h. unfold contents in refl;
        inner = λ h. true-is-not-false (unfold ends_open inside elements in h);
      }

  joins-byte : (b : ℕ) (s : List ℕ) → eqb b quote ≡ false → Joins q s → meet_equal (b ∷ s) q ≡ false → Joins q (b ∷ s)
  joins-byte b s e rest apart =
      record {
        outer = λ h.
            rw (contents-byte b (s ++ q) e, contents-byte b s e, rest.outer (rw (contents-byte b s e, open-byte b (contents s)) at h))
            (byte-before b (contents s) (contents q) (λ none. byte-alone b q (last_byte b s q apart none)));
        inner = λ h.
            rw (inside-byte b (s ++ q) e, inside-byte b s e, rest.inner (rw (inside-byte b s e, open-inside b (inside (elements s))) at h))
            (inside-before b (inside (elements s)) (contents q) (inside-opens (elements s)));
      }

  joins-escaped : (s : List ℕ) → Joins q s → meet_equal (quote ∷ s) q ≡ false → Joins q (quote ∷ quote ∷ s)
  joins-escaped s rest apart =
      record {
        outer = λ h.
            rw (contents-escaped (s ++ q), contents-escaped s, rest.outer (rw (contents-escaped s, open-escaped (contents s)) at h))
            (escaped-before (contents s) (contents q) (λ none. escaped-alone q (last_byte quote s q apart none)));
        inner = λ h.
            rw (inside-escaped (s ++ q), inside-escaped s, rest.inner (rw (inside-escaped s, open-inside quote (inside (elements s))) at h))
            (inside-before quote (inside (elements s)) (contents q) (inside-opens (elements s)));
      }

  joins-single : (s : List ℕ) → eqb (get_or s 0 0) quote ≡ false → Joins q s → meet_equal (quote ∷ s) q ≡ false → Joins q (quote ∷ s)
  joins-single s e rest apart =
      let next = no-quote s q e apart in
      record {
        outer = λ h. rw (contents-single (s ++ q) next, contents-single s e) (rest.inner (rw (contents-single s e) at h));
        inner = λ h.
            rw (inside-single (s ++ q) next, inside-single s e, rest.outer (unfold ends_open in (rw (inside-single s e) at h)));
      }

  joins : (p : List ℕ) → meet_equal p q ≡ false → Joins q p
  joins =
      by-elements (λ p. meet_equal p q ≡ false → Joins q p) (λ _. joins-none)
      (λ b s e rest h. joins-byte b s e (rest (apart-behind b s q h)) h)
      (λ s rest h. let apart = apart-behind quote (quote ∷ s) q h in joins-escaped s (rest (apart-behind quote s q apart)) apart)
      (λ s e rest h. joins-single s e (rest (apart-behind quote s q h)) h)

-- The parts hold what those of the one and then those of the other hold.
pub contents-join : (p q : List ℕ) → starts_quoted p q ≡ false → meet_equal p q ≡ false → contents (p ++ q) ≡ contents p ++ contents q
contents-join p [] closed apart = rw append-nil (sym (append-nil (contents p)) ∙ unfold contents in refl)
contents-join p (b ∷ q) closed apart = (joins (b ∷ q) p apart).outer (unfold starts_quoted in closed)

-- and the join ends in a lone quote where the second does
pub lone-quote-join : (cs ds : List Content) → ends_open cs ≡ false → ends_in_lone_quote (cs ++ ds) ≡ ends_in_lone_quote ds
unfolding ends_open ends_in_lone_quote
lone-quote-join [] ds h = refl
lone-quote-join (run b n ∷ cs) ds h = lone-quote-join cs ds h
lone-quote-join (quotes n ∷ cs) ds h = lone-quote-join cs ds h
lone-quote-join (quoted s ∷ cs) ds h = lone-quote-join cs ds h
lone-quote-join (unclosed s ∷ cs) ds h = true-is-not-false h
