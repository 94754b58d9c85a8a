-- Parts that stand well side by side, so that none joins the next: those of a pattern do, and such parts are the parts of their
-- bytes.
use mathlib.Core.Bool.{Bool, true, false}
use mathlib.Core.List.{List, [], ◌∷◌, ◌++◌, append_assoc, append-nil}
use mathlib.Core.Path.{◌≡◌, refl, sym, ◌∙◌}
use Prim.Native.Nat.{ℕ, zero, suc, ◌*◌, ◌≤◌}
use native.Mathlib.Omega.{arith}
use lib.Dec.{eqb}
use lib.ListN.{get_or, replicate}
use borrow.Author.Tests.{eqb-true, eq-eqb}
use Rattle.meaning.specs.Bytes.{when, quote}
use Rattle.meaning.specs.Mending.{escaped_bytes, part_bytes}
use Rattle.meaning.specs.Splitting.{elements, Content, run, quotes, quoted, unclosed, join_byte, join_escaped, join_inside, inside, contents}
use Rattle.laws.proofs.Elements.{by-elements, contents-byte, contents-escaped, contents-single, inside-byte, inside-escaped, inside-single}
use Rattle.laws.proofs.PartBytes.{joined, twice-more}
use Rattle.laws.proofs.Splitting.{opens, inside-opens}
use Rattle.laws.proofs.Tests.{by-test, true-is-not-false}

-- what stands behind a part: nothing, a run of a byte, escaped quotes, a quote that opens
pub data Behind : Type 0 where
  nothing : Behind
  byte_of : ℕ → Behind
  escapes : Behind
  opener : Behind

abbrev pub start_of : List Content → Behind
start_of [] = nothing
start_of (run a n ∷ cs) = byte_of a
start_of (quotes n ∷ cs) = escapes
start_of (quoted s ∷ cs) = opener
start_of (unclosed s ∷ cs) = opener

-- what may stand behind a part

abbrev pub other_than : ℕ → Behind → Bool
other_than b nothing = true
other_than b (byte_of a) = when (eqb b a) false true
other_than b escapes = true
other_than b opener = true

abbrev pub no_quotes : Behind → Bool
no_quotes nothing = true
no_quotes (byte_of a) = true
no_quotes escapes = false
no_quotes opener = true

abbrev pub no_quote_byte : Behind → Bool
no_quote_byte nothing = true
no_quote_byte (byte_of a) = true
no_quote_byte escapes = false
no_quote_byte opener = false

abbrev pub is_end : Behind → Bool
is_end nothing = true
is_end (byte_of a) = false
is_end escapes = false
is_end opener = false

abbrev pub apart : Content → Behind → Bool
apart (run b n) h = other_than b h
apart (quotes n) h = no_quotes h
apart (quoted s) h = no_quote_byte h
apart (unclosed s) h = is_end h

-- what a part may hold: a run some bytes that are no quotes, and no inside begins with a quote
abbrev pub opening : List ℕ → Bool
opening [] = false
opening (b ∷ s) = when (eqb b quote) false true

abbrev pub Held : Content → Type 0
Held (run b n) = (1 ≤ n) × (eqb b quote ≡ false)
Held (quotes n) = 1 ≤ n
Held (quoted s) = opening s ≡ true
Held (unclosed s) = eqb (get_or s 0 0) quote ≡ false

abbrev pub Well : List Content → Type 0
Well [] = Unit
Well (c ∷ cs) = Held c × (apart c (start_of cs) ≡ true) × Well cs

-- such parts are the parts of their bytes: a byte or an escaped quote before them is a part of its own, and joins the next of its own

byte-front : (b : ℕ) (cs : List Content) → other_than b (start_of cs) ≡ true → join_byte b cs ≡ run b 1 ∷ cs
byte-front b [] h = refl
byte-front b (run a n ∷ cs) h = by-test (eqb b a) (λ e. true-is-not-false (sym (rw e at h))) (λ e. rw e)
byte-front b (quotes n ∷ cs) h = refl
byte-front b (quoted s ∷ cs) h = refl
byte-front b (unclosed s ∷ cs) h = refl

times-front : (b n : ℕ) (r : List ℕ) (cs : List Content) → 1 ≤ n → eqb b quote ≡ false → contents r ≡ cs → other_than b (start_of cs) ≡ true
    → contents (replicate n b ++ r) ≡ run b n ∷ cs
times-front b zero r cs h e d k = absurd (omega arith)
times-front b (suc zero) r cs h e d k = contents-byte b r e ∙ rw d (byte-front b cs k)
times-front b (suc (suc n)) r cs h e d k =
    contents-byte b (replicate (suc n) b ++ r) e ∙ rw (times-front b (suc n) r cs (omega arith) e d k, eq-eqb b b refl)

escaped-front : (cs : List Content) → no_quotes (start_of cs) ≡ true → join_escaped cs ≡ quotes 1 ∷ cs
escaped-front [] h = refl
escaped-front (run a n ∷ cs) h = refl
escaped-front (quotes n ∷ cs) h = true-is-not-false (sym h)
escaped-front (quoted s ∷ cs) h = refl
escaped-front (unclosed s ∷ cs) h = refl

escaped-times : (n : ℕ) (r : List ℕ) (cs : List Content) → 1 ≤ n → contents r ≡ cs → no_quotes (start_of cs) ≡ true
    → contents (replicate (2 * n) quote ++ r) ≡ quotes n ∷ cs
escaped-times zero r cs h d k = absurd (omega arith)
escaped-times (suc zero) r cs h d k = contents-escaped r ∙ rw d (escaped-front cs k)
escaped-times (suc (suc n)) r cs h d k =
    rw (twice-more (suc n))
    (contents-escaped (replicate (2 * suc n) quote ++ r) ∙ rw (escaped-times (suc n) r cs (omega arith) d k))

inside-closed : (s r : List ℕ) → eqb (get_or r 0 0) quote ≡ false → inside (elements (escaped_bytes s ++ quote ∷ r)) ≡ quoted s ∷ contents r
unfolding escaped_bytes
inside-closed [] r e = inside-single r e
inside-closed (b ∷ s) r e =
    let rest = inside-closed s r e in
    by-test (eqb b quote)
    (λ q. rw (q, eqb-true b quote q) (inside-escaped (escaped_bytes s ++ quote ∷ r) ∙ rw rest))
    (λ q. rw q (inside-byte b (escaped_bytes s ++ quote ∷ r) q ∙ rw rest))

inside-open : (s : List ℕ) → inside (elements (escaped_bytes s)) ≡ unclosed s ∷ []
unfolding escaped_bytes
inside-open [] = unfold inside elements in refl
inside-open (b ∷ s) =
    let rest = inside-open s in
    by-test (eqb b quote)
    (λ q. rw (q, eqb-true b quote q) (inside-escaped (escaped_bytes s) ∙ rw rest))
    (λ q. rw q (inside-byte b (escaped_bytes s) q ∙ rw rest))

run-first : (b n : ℕ) (r : List ℕ) → 1 ≤ n → get_or (replicate n b ++ r) 0 0 ≡ b
run-first b zero r h = absurd (omega arith)
run-first b (suc n) r h = refl

first_byte : (cs : List Content) → no_quote_byte (start_of cs) ≡ true → Well cs → eqb (get_or (joined cs) 0 0) quote ≡ false
unfolding joined part_bytes
first_byte [] h w = refl
first_byte (run b n ∷ cs) h w = rw (run-first b n (joined cs) w.0.0) w.0.1
first_byte (quotes n ∷ cs) h w = true-is-not-false (sym h)
first_byte (quoted s ∷ cs) h w = true-is-not-false (sym h)
first_byte (unclosed s ∷ cs) h w = true-is-not-false (sym h)

opening-first : (s t : List ℕ) → opening s ≡ true → eqb (get_or (escaped_bytes s ++ t) 0 0) quote ≡ false
unfolding escaped_bytes
opening-first [] t h = true-is-not-false (sym h)
opening-first (b ∷ s) t h = by-test (eqb b quote) (λ e. true-is-not-false (sym (rw e at h))) (λ e. rw e e)

open-first : (s : List ℕ) → eqb (get_or s 0 0) quote ≡ false → eqb (get_or (escaped_bytes s) 0 0) quote ≡ false
unfolding escaped_bytes
open-first [] h = refl
open-first (b ∷ s) h = rw h h

pub not_end : (c : Content) (cs : List Content) → is_end (start_of (c ∷ cs)) ≡ false
not_end (run b n) cs = refl
not_end (quotes n) cs = refl
not_end (quoted s) cs = refl
not_end (unclosed s) cs = refl

pub parts-of-joined : (cs : List Content) → Well cs → contents (joined cs) ≡ cs
unfolding joined part_bytes
parts-of-joined [] w = unfold contents in refl
parts-of-joined (run b n ∷ cs) w =
    times-front b n (joined cs) cs w.0.0 w.0.1 (parts-of-joined cs w.2) w.1
parts-of-joined (quotes n ∷ cs) w = escaped-times n (joined cs) cs w.0 (parts-of-joined cs w.2) w.1
parts-of-joined (quoted s ∷ cs) w =
    let rest = parts-of-joined cs w.2 in
    rw append_assoc
    (contents-single (escaped_bytes s ++ quote ∷ joined cs) (opening-first s (quote ∷ joined cs) w.0)
    ∙ inside-closed s (joined cs) (first_byte cs w.1 w.2) ∙ rw rest)
parts-of-joined (unclosed s ∷ []) w =
    rw append-nil (contents-single (escaped_bytes s) (open-first s w.0) ∙ inside-open s)
parts-of-joined (unclosed s ∷ c ∷ cs) w = true-is-not-false (sym w.1 ∙ not_end c cs)

-- The parts of a pattern stand well: what joins at the front leaves it so.

pub well-byte : (b : ℕ) (cs : List Content) → eqb b quote ≡ false → Well cs → Well (join_byte b cs)
well-byte b [] e w = ((omega arith, e), refl, tt)
well-byte b (run a n ∷ cs) e w =
    by-test (eqb b a)
    (λ d. rw (d, eqb-true b a d) ((omega arith, w.0.1), w.1, w.2))
    (λ d. rw (d) ((omega arith, e), rw d, w))
well-byte b (quotes n ∷ cs) e w = ((omega arith, e), refl, w)
well-byte b (quoted s ∷ cs) e w = ((omega arith, e), refl, w)
well-byte b (unclosed s ∷ cs) e w = ((omega arith, e), refl, w)

well-escaped : (cs : List Content) → Well cs → Well (join_escaped cs)
well-escaped [] w = (omega arith, refl, tt)
well-escaped (run a n ∷ cs) w = (omega arith, refl, w)
well-escaped (quotes n ∷ cs) w = (omega arith, w.1, w.2)
well-escaped (quoted s ∷ cs) w = (omega arith, refl, w)
well-escaped (unclosed s ∷ cs) w = (omega arith, refl, w)

-- behind a quote that opens, whatever the part then holds
abbrev WellInside : List Content → Type 0
WellInside [] = Unit
WellInside (run a n ∷ cs) = Unit
WellInside (quotes n ∷ cs) = Unit
WellInside (quoted s ∷ cs) = (no_quote_byte (start_of cs) ≡ true) × Well cs
WellInside (unclosed s ∷ cs) = is_end (start_of cs) ≡ true

inside-well : (b : ℕ) (cs : List Content) → WellInside cs → WellInside (join_inside b cs)
inside-well b [] w = tt
inside-well b (run a n ∷ cs) w = tt
inside-well b (quotes n ∷ cs) w = tt
inside-well b (quoted s ∷ cs) w = w
inside-well b (unclosed s ∷ cs) w = w

-- the part that opens holds the first byte behind its quote
opened-well : (b : ℕ) (cs : List Content) → eqb b quote ≡ false → opens cs ≡ true → WellInside (join_inside b cs) → Well (join_inside b cs)
opened-well b [] e h w = true-is-not-false (sym h)
opened-well b (run a n ∷ cs) e h w = true-is-not-false (sym h)
opened-well b (quotes n ∷ cs) e h w = true-is-not-false (sym h)
opened-well b (quoted s ∷ cs) e h w = (rw e, w.0, w.1)
opened-well b (unclosed s ∷ []) e h w = (e, refl, tt)
opened-well b (unclosed s ∷ c ∷ cs) e h w = true-is-not-false (sym w ∙ not_end c cs)

byte-starts : (b : ℕ) (cs : List Content) → no_quote_byte (start_of (join_byte b cs)) ≡ true
byte-starts b [] = refl
byte-starts b (run a n ∷ cs) = by-test (eqb b a) (λ e. rw e) (λ e. rw e)
byte-starts b (quotes n ∷ cs) = refl
byte-starts b (quoted s ∷ cs) = refl
byte-starts b (unclosed s ∷ cs) = refl

starts-plain : (s : List ℕ) → eqb (get_or s 0 0) quote ≡ false → no_quote_byte (start_of (contents s)) ≡ true
starts-plain [] e = unfold contents in refl
starts-plain (b ∷ s) e = rw (contents-byte b s e) (byte-starts b (contents s))

record Stands (p : List ℕ) : Type 0 where
  outer : Well (contents p)
  inner : WellInside (inside (elements p))

single-well : (s : List ℕ) → eqb (get_or s 0 0) quote ≡ false → WellInside (inside (elements s)) → Well (inside (elements s))
single-well [] e w = unfold inside elements in (refl, refl, tt)
single-well (b ∷ r) e w =
    rw (inside-byte b r e)
    (opened-well b (inside (elements r)) e (inside-opens (elements r)) (rw (inside-byte b r e) at w))

stands : (p : List ℕ) → Stands p
stands =
    by-elements Stands (record { outer = unfold contents in tt; inner = unfold inside elements in refl })
    (λ b s e rest.
    record {
      outer = rw (contents-byte b s e) (well-byte b (contents s) e rest.outer);
      inner = rw (inside-byte b s e) (inside-well b (inside (elements s)) rest.inner);
    })
    (λ s rest.
    record {
      outer = rw (contents-escaped s) (well-escaped (contents s) rest.outer);
      inner = rw (inside-escaped s) (inside-well quote (inside (elements s)) rest.inner);
    })
    (λ s e rest.
    record {
      outer = rw (contents-single s e) (single-well s e rest.inner);
      inner = rw (inside-single s e) (starts-plain s e, rest.outer);
    })

pub parts-stand-well : (p : List ℕ) → Well (contents p)
parts-stand-well p = (stands p).outer
