-- The contents of a pattern are its first content, by the scans of specs/First, and the contents of what is left behind it.
use mathlib.Core.Bool.{Bool, true, false}
use mathlib.Core.List.{List, [], ◌∷◌}
use mathlib.Core.Path.{◌≡◌, refl, sym, ap, ◌∙◌}
use Prim.Native.Nat.{ℕ, suc, ◌+◌, ◌*◌, ◌≤◌, ◌<◌}
use native.Mathlib.Omega.{arith}
use lib.Dec.{eqb, ltb, leb-suc-suc}
use lib.ListN.{length, get_or, take, drop, drop_of_length-le}
use borrow.Author.Tests.{eq-eqb, eqb-true, ltb-true, ltb-false, lt-ltb}
use Rattle.laws.proofs.Elements.{by-elements, contents-byte, contents-escaped, contents-single, inside-byte, inside-escaped, inside-single, byte-apart, byte-escaped, escaped-byte, byte-quoted, escaped-quoted}
use Rattle.laws.proofs.Tests.{by-test, when-is}
use Rattle.meaning.specs.Bytes.{when, quote}
use Rattle.meaning.specs.Splitting.{elements, Content, run, quotes, quoted, unclosed, join_byte, join_escaped, join_inside, inside, contents, inside_length, length_of}
use Rattle.pattern.specs.First.{run_length, escaped_count, inside_size, unescaped, inside_of, opened_content, first_content}

-- the scan of a quoted part, by the first element

pub size-byte : (b : ℕ) (s : List ℕ) → eqb b quote ≡ false → inside_size (b ∷ s) ≡ suc (inside_size s)
unfolding inside_size
size-byte b [] e = rw e
size-byte b (a ∷ s) e = rw e

pub size-escaped : (s : List ℕ) → inside_size (quote ∷ quote ∷ s) ≡ suc (suc (inside_size s))
unfolding inside_size
size-escaped s = refl

pub size-single : (s : List ℕ) → eqb (get_or s 0 0) quote ≡ false → inside_size (quote ∷ s) ≡ 0
unfolding inside_size
size-single [] e = refl
size-single (b ∷ s) e = rw e

pub unescaped-byte : (b : ℕ) (s : List ℕ) → eqb b quote ≡ false → unescaped (b ∷ s) ≡ b ∷ unescaped s
unfolding unescaped
unescaped-byte b [] e = refl
unescaped-byte b (a ∷ s) e = rw e

-- what an opening quote starts, with a byte more in front of its inside
opened_behind : ℕ → List ℕ → Content
opened_behind b s = when (ltb (inside_size s) (length s)) quoted unclosed (b ∷ inside_of s)

opened-byte : (b : ℕ) (s : List ℕ) → eqb b quote ≡ false → opened_content (b ∷ s) ≡ opened_behind b s
unfolding opened_content opened_behind
opened-byte b s e =
    rw (size-byte b s e, leb-suc-suc (suc (inside_size s)) (length s), unescaped-byte b (take (inside_size s) s) e)

opened-escaped : (s : List ℕ) → opened_content (quote ∷ quote ∷ s) ≡ opened_behind quote s
unfolding opened_content opened_behind
opened-escaped s = rw (leb-suc-suc (suc (suc (inside_size s))) (suc (length s)), leb-suc-suc (suc (inside_size s)) (length s))

opened-single : (s : List ℕ) → eqb (get_or s 0 0) quote ≡ false → opened_content (quote ∷ s) ≡ quoted []
unfolding opened_content
opened-single s e = rw (size-single s e, lt-ltb 0 (suc (length s)) (omega arith))

joins-inside : (t : Bool) (b : ℕ) (w : List ℕ) (cs : List Content)
    → join_inside b (when t quoted unclosed w ∷ cs) ≡ when t quoted unclosed (b ∷ w) ∷ cs
joins-inside true b w cs = refl
joins-inside false b w cs = refl

opened-joins : (b : ℕ) (s : List ℕ) (cs : List Content) → join_inside b (opened_content s ∷ cs) ≡ opened_behind b s ∷ cs
unfolding opened_content opened_behind
opened-joins b s cs = joins-inside (ltb (inside_size s) (length s)) b (inside_of s) cs

opened-none : inside (elements []) ≡ opened_content [] ∷ contents (drop (suc (inside_size [])) [])
unfolding inside elements opened_content contents
opened-none = refl

-- a quoted part ends at the quote that closes, or with the pattern
opened-first : (s : List ℕ) → inside (elements s) ≡ opened_content s ∷ contents (drop (suc (inside_size s)) s)
opened-first =
    by-elements (λ s. inside (elements s) ≡ opened_content s ∷ contents (drop (suc (inside_size s)) s)) opened-none
    (λ b s e h. rw (opened-byte b s e, size-byte b s e) (inside-byte b s e ∙ ap (join_inside b) h ∙ opened-joins b s _))
    (λ s h. rw (opened-escaped s, size-escaped s) (inside-escaped s ∙ ap (join_inside quote) h ∙ opened-joins quote s _))
    (λ s e h. rw (opened-single s e, size-single s e) (inside-single s e))

-- equal bytes join
pub run-same : (b : ℕ) (s : List ℕ) → run_length b (b ∷ s) ≡ suc (run_length b s)
unfolding run_length
run-same b s = rw (eq-eqb b b refl)

pub run-apart : (b a : ℕ) (s : List ℕ) → eqb b a ≡ false → run_length b (a ∷ s) ≡ 0
unfolding run_length
run-apart b a s e = rw e

byte-same : (b n : ℕ) (cs : List Content) → join_byte b (run b n ∷ cs) ≡ run b (suc n) ∷ cs
byte-same b n cs = rw (eq-eqb b b refl)

run_none : (b : ℕ) → join_byte b (contents []) ≡ run b (suc (run_length b [])) ∷ contents (drop (run_length b []) [])
unfolding contents run_length
run_none b = refl

contents-opened : (s : List ℕ) → eqb (get_or s 0 0) quote ≡ false
    → contents (quote ∷ s) ≡ opened_content s ∷ contents (drop (suc (inside_size s)) s)
contents-opened s e = contents-single s e ∙ opened-first s

run-joins : (b : ℕ) → eqb b quote ≡ false → (s : List ℕ)
    → join_byte b (contents s) ≡ run b (suc (run_length b s)) ∷ contents (drop (run_length b s) s)
unfolding opened_content
run-joins b e =
    by-elements (λ s. join_byte b (contents s) ≡ run b (suc (run_length b s)) ∷ contents (drop (run_length b s) s)) (run_none b)
    (λ a s f h.
    by-test (eqb b a)
    (λ g.
    rw (← eqb-true b a g, run-same b s) (ap (join_byte b) (contents-byte b s e ∙ h) ∙ byte-same b (suc (run_length b s)) _))
    (λ g. rw (run-apart b a s g, contents-byte a s f) (byte-apart b a (contents s) g)))
    (λ s h. rw (run-apart b quote (quote ∷ s) e, contents-escaped s) (byte-escaped b (contents s)))
    (λ s f h. rw (run-apart b quote s e) (byte-quoted b s f))

-- escaped quotes join

pub count-byte : (b : ℕ) (s : List ℕ) → eqb b quote ≡ false → escaped_count (b ∷ s) ≡ 0
unfolding escaped_count
count-byte b [] e = refl
count-byte b (a ∷ s) e = rw e

pub count-escaped : (s : List ℕ) → escaped_count (quote ∷ quote ∷ s) ≡ suc (escaped_count s)
unfolding escaped_count
count-escaped s = refl

pub count-single : (s : List ℕ) → eqb (get_or s 0 0) quote ≡ false → escaped_count (quote ∷ s) ≡ 0
unfolding escaped_count
count-single [] e = refl
count-single (b ∷ s) e = rw e

escaped-none : join_escaped (contents []) ≡ quotes (suc (escaped_count [])) ∷ contents (drop (2 * escaped_count []) [])
unfolding contents escaped_count
escaped-none = refl

twice-suc : (n : ℕ) → 2 * suc n ≡ suc (suc (2 * n))
twice-suc n = omega arith

escaped-joins : (s : List ℕ) → join_escaped (contents s) ≡ quotes (suc (escaped_count s)) ∷ contents (drop (2 * escaped_count s) s)
unfolding opened_content
escaped-joins =
    by-elements (λ s. join_escaped (contents s) ≡ quotes (suc (escaped_count s)) ∷ contents (drop (2 * escaped_count s) s)) escaped-none
    (λ b s e h. rw (count-byte b s e, contents-byte b s e) (escaped-byte b (contents s)))
    (λ s h. rw (count-escaped s, twice-suc (escaped_count s)) (ap join_escaped (contents-escaped s ∙ h)))
    (λ s e h. rw (count-single s e) (escaped-quoted s e))

-- sizes

run_fits : (b : ℕ) (s : List ℕ) → run_length b s ≤ length s
unfolding run_length
run_fits b [] = omega arith
run_fits b (a ∷ s) = when-is (λ n. n ≤ length (a ∷ s)) (eqb b a) (λ e. omega (arith, run_fits b s)) (λ e. omega arith)

pub escaped-fit : (s : List ℕ) → 2 * escaped_count s ≤ length s
unfolding escaped_count
escaped-fit =
    by-elements (λ s. 2 * escaped_count s ≤ length s) (omega arith)
    (λ b s e h. rw (count-byte b s e) (omega arith)) (λ s h. rw (count-escaped s) (omega arith))
    (λ s e h. rw (count-single s e) (omega arith))

inside-fits : (s : List ℕ) → inside_size s ≤ length s
unfolding inside_size
inside-fits =
    by-elements (λ s. inside_size s ≤ length s) (omega arith)
    (λ b s e h. rw (size-byte b s e) (omega arith)) (λ s h. rw (size-escaped s) (omega arith))
    (λ s e h. rw (size-single s e) (omega arith))

-- the inside takes the bytes that were scanned for it
pub inside-length : (s : List ℕ) → inside_length (inside_of s) ≡ inside_size s
unfolding inside_of
inside-length =
    by-elements (λ s. inside_length (inside_of s) ≡ inside_size s) refl
    (λ b s e h. rw (size-byte b s e, unescaped-byte b (take (inside_size s) s) e, e) (omega arith))
    (λ s h. rw (size-escaped s) (omega arith))
    (λ s e h. rw (size-single s e))

length-when : (t : Bool) (w : List ℕ) → length_of (when t quoted unclosed w) ≡ when t 2 1 + inside_length w
unfolding length_of
length-when true w = refl
length-when false w = refl

pub length-opened : (s : List ℕ) → length_of (opened_content s) ≡ when (ltb (inside_size s) (length s)) 2 1 + inside_size s
unfolding opened_content
length-opened s = length-when (ltb (inside_size s) (length s)) (inside_of s) ∙ rw inside-length

-- the first content, by the first element

first_byte : (b : ℕ) (s : List ℕ) → eqb b quote ≡ false → first_content (b ∷ s) ≡ run b (suc (run_length b s))
unfolding first_content
first_byte b s e = rw (e, run-same b s)

first-escaped : (s : List ℕ) → first_content (quote ∷ quote ∷ s) ≡ quotes (suc (escaped_count s))
unfolding first_content
first-escaped s = rw (lt-ltb 0 (suc (escaped_count s)) (omega arith))

first-opened : (s : List ℕ) → eqb (get_or s 0 0) quote ≡ false → first_content (quote ∷ s) ≡ opened_content s
unfolding first_content
first-opened s e = rw (count-single s e)

-- what is left behind the first content

drop-opened : (s : List ℕ) → drop (length_of (opened_content s)) (quote ∷ s) ≡ drop (suc (inside_size s)) s
drop-opened s =
    rw (length-opened s)
    (by-test (ltb (inside_size s) (length s))
    (λ e. let k : 2 + inside_size s ≡ suc (suc (inside_size s)) = omega arith in rw (e, k))
    (λ e.
    let f = ltb-false (inside_size s) (length s) e in
    let k : 1 + inside_size s ≡ suc (inside_size s) = omega arith in
    rw (e, k) (drop_of_length-le s f ∙ sym (drop_of_length-le s {i = suc (inside_size s)} (omega arith)))))

-- The contents of a pattern are its first content and those of what is left.
pub contents-first : (s : List ℕ) → 0 < length s → contents s ≡ first_content s ∷ contents (drop (length_of (first_content s)) s)
unfolding length_of
contents-first =
    by-elements (λ s. 0 < length s → contents s ≡ first_content s ∷ contents (drop (length_of (first_content s)) s))
    (λ h. absurd (omega arith))
    (λ b s e h k. rw (first_byte b s e) (contents-byte b s e ∙ run-joins b e s))
    (λ s h k. rw (first-escaped s, twice-suc (escaped_count s)) (contents-escaped s ∙ escaped-joins s))
    (λ s e h k. rw (first-opened s e, drop-opened s) (contents-opened s e))

opened-sized : (s : List ℕ) → (0 < length_of (opened_content s)) × (length_of (opened_content s) ≤ suc (length s))
opened-sized s =
    rw (length-opened s)
    (when-is (λ n. (0 < n + inside_size s) × (n + inside_size s ≤ suc (length s))) (ltb (inside_size s) (length s))
    (λ e. (omega arith, omega (arith, ltb-true (inside_size s) (length s) e))) (λ e. (omega arith, omega (arith, inside-fits s))))

-- It has a byte at least, and no more than there are.
pub first-sized : (s : List ℕ) → 0 < length s → (0 < length_of (first_content s)) × (length_of (first_content s) ≤ length s)
unfolding length_of
first-sized =
    by-elements (λ s. 0 < length s → (0 < length_of (first_content s)) × (length_of (first_content s) ≤ length s))
    (λ h. absurd (omega arith)) (λ b s e h k. rw (first_byte b s e) (omega arith, omega (arith, run_fits b s)))
    (λ s h k. rw (first-escaped s) (omega arith, omega (arith, escaped-fit s)))
    (λ s e h k. rw (first-opened s e) (opened-sized s))

-- by cases on the first content
pub by_first : (P : Content → Type 0) (s : List ℕ) → P (run (get_or s 0 0) (run_length (get_or s 0 0) s)) → P (quotes (escaped_count s))
    → P (quoted (inside_of (drop 1 s))) → (length (drop 1 s) ≤ inside_size (drop 1 s) → P (unclosed (inside_of (drop 1 s)))) → P (first_content s)
unfolding first_content
by_first P s a b c d =
    let t = drop 1 s in
    when-is P (eqb (get_or s 0 0) quote)
    (λ e.
    when-is P (ltb 0 (escaped_count s)) (λ f. b)
    (λ f.
    when-is (λ (kind : List ℕ → Content). P (kind (inside_of t))) (ltb (inside_size t) (length t)) (λ g. c)
    (λ g. d (ltb-false (inside_size t) (length t) g))))
    (λ e. a)
