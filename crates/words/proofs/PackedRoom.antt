-- The words of a pattern and the bytes that they hold are together no more than its bytes.
use Rattle.std.specs.Prelude.{Ok}
use mathlib.Core.Bool.{Bool, true, false}
use mathlib.Core.List.{List, [], ◌∷◌}
use mathlib.Core.Path.{◌≡◌, refl}
use Prim.Native.Nat.{ℕ, ◌+◌, ◌-◌, ◌≤◌, ◌<◌}
use native.Mathlib.Omega.{arith}
use lib.Dec.{eqb, ltb}
use lib.ListN.{length, length-append}
use borrow.Author.Tests.{ltb-true, lt-ltb}
use Rattle.meaning.specs.Answers.{pattern_check}
use Rattle.meaning.specs.Bytes.{when, quote}
use Rattle.meaning.specs.Rules.{role_of}
use Rattle.meaning.specs.Splitting.{Content, run, quotes, quoted, unclosed, contents, length_of}
use Rattle.meaning.specs.Writing.{ends_in_quote}
use Rattle.meaning.specs.declared.Pair.{Pair}
use Rattle.meaning.specs.declared.Role.{Role}
use Rattle.meaning.specs.declared.Role.TheVariants as role
use Rattle.laws.proofs.Ascii.{Ascii}
use Rattle.laws.proofs.Table.{RoleHas}
use Rattle.laws.proofs.Splitting.{total, parts-fill}
use Rattle.laws.proofs.Tests.{by-test, both_true, both-are, every, when-is}
use Rattle.words.specs.Packing.{times_word, role_word, is_one, held_word, held_inside, held_in, held_of, held_by, part_word, part_words, with_byte, three_word, kept, joined, packed}
use Rattle.words.proofs.Joining.{by-joining, joined-byte-fits}
use Rattle.words.proofs.PackedParts.{AllPack, inside-length, pattern-packs}
use Rattle.words.proofs.PartWords.{Packs, lost-few, first_small}
use Rattle.words.proofs.TableWords.{Stands, role-stands}

-- joining leaves no more words than there are
abbrev full : ℕ → ℕ
full w = when (eqb w 0) 0 1

full-one : (w : ℕ) → full w ≤ 1
full-one w = when-is (λ (n : ℕ). n ≤ 1) (eqb w 0) (λ _. omega arith) (λ _. omega arith)

kept-length : (w : ℕ) (ws : List ℕ) → length (kept w ws) ≡ full w + length ws
kept-length w ws = by-test (eqb w 0) (λ e. rw e (omega arith)) (λ e. rw e (omega arith))

joined_length : (a b : ℕ) (ws : List ℕ) → length (joined a b ws) ≤ full a + full b + length ws
unfolding joined
joined_length a b [] = omega (arith, kept-length a (kept b []), kept-length b [])
joined_length a b (w ∷ ws) =
    by-joining (λ l. length l ≤ full a + full b + length (w ∷ ws)) a b w ws
    (λ _. omega (arith, joined_length a (with_byte b w) ws, full-one (with_byte b w)))
    (λ _. omega (arith, joined_length 0 (three_word 15 a b) ws, full-one (three_word 15 a b)))
    (λ _. omega (arith, joined_length 0 (three_word 10 a b) ws, full-one (three_word 10 a b)))
    (omega (arith, kept-length a (joined b w ws), joined_length b w ws, full-one w))

-- a part has a byte for its word, and one for each that it holds
inside-held : (s : List ℕ) (lost : Bool) → length (held_inside s lost) ≤ length s
inside-held s lost = when-is (λ (l : List ℕ). length l ≤ length s) (is_one s lost) (λ _. omega arith) (λ _. omega arith)

part-fits : (c : Content) → Packs c → 1 + length (held_in c) ≤ length_of c
unfolding held_in length_of
part-fits (run b n) h = omega arith
part-fits (quotes n) h = omega arith
part-fits (quoted s) h = omega (arith, inside-held s false, inside-length s)
part-fits (unclosed s) h = omega (arith, inside-held s (ends_in_quote s), inside-length s)

parts-fit : (pair : Pair) (at : ℕ) (cs : List Content) → AllPack cs → length (part_words pair at cs) + length (held_of cs) ≤ total cs
unfolding part_words held_of total
parts-fit pair at [] h = omega arith
parts-fit pair at (c ∷ cs) h =
    omega (arith, part-fits c h.0, parts-fit pair (at - length (held_in c)) cs h.1, length-append (held_of cs) (held_in c))

pub packed-short : (pair : Pair) (p : List ℕ) → pattern_check p ≡ Ok tt → length (packed pair p) + length (held_by p) ≤ length p
unfolding packed held_by
packed-short pair p h =
    omega (
      arith,
      joined_length 0 0 (part_words pair 256 (contents p)),
      parts-fit pair 256 (contents p) (pattern-packs p h),
      parts-fill p,
    )

-- every word is one of 64 bits

abbrev pub is_word : ℕ → Bool
is_word w = ltb w 18446744073709551616

word-yes : (w : ℕ) → w < 18446744073709551616 → is_word w ≡ true
word-yes w h = lt-ltb w 18446744073709551616 h

times-word : (b n : ℕ) → b < 128 → n ≤ 256 → times_word b n < 18446744073709551616
times-word b n h k = when-is (λ (w : ℕ). w < 18446744073709551616) (eqb n 1) (λ _. omega arith) (λ _. omega arith)

role-is-word : (r : Role) (b n : ℕ) → RoleHas Stands r → b < 128 → n ≤ 256 → role_word r b n < 18446744073709551616
role-is-word role.Literal b n h fits few = times-word b n fits few
role-is-word (role.Symbol rule) b n h fits few = omega (arith, h.small)

held-is-word : (at : ℕ) (s : List ℕ) (lost : Bool) → at ≤ 256 → Ascii s × (length s ≤ 256) → held_word at s lost < 18446744073709551616
held-is-word at s lost here fine =
    when-is (λ (w : ℕ). w < 18446744073709551616) (is_one s lost) (λ _. omega (arith, first_small s fine.0)) (λ _. omega (arith, lost-few lost))

part-is-word : (pair : Pair) (at : ℕ) (c : Content) → at ≤ 256 → Packs c → part_word pair at c < 18446744073709551616
unfolding part_word
part-is-word pair at (run b n) here fine = role-is-word (role_of pair b n) b n (role-stands n pair b fine.1 fine.2) fine.0 fine.2
part-is-word pair at (quotes n) here fine = times-word quote n (omega arith) fine.1
part-is-word pair at (quoted s) here fine = held-is-word at s false here fine
part-is-word pair at (unclosed s) here fine = held-is-word at s (ends_in_quote s) here fine

parts-are-words : (pair : Pair) (at : ℕ) (cs : List Content) → at ≤ 256 → AllPack cs → every is_word (part_words pair at cs) ≡ true
unfolding part_words every
parts-are-words pair at [] here h = refl
parts-are-words pair at (c ∷ cs) here h =
    let next = at - length (held_in c) in
    both-are (is_word (part_word pair next c)) _ (word-yes _ (part-is-word pair next c (omega arith) h.0))
    (parts-are-words pair next cs (omega arith) h.1)

kept-words : (w : ℕ) (ws : List ℕ) → w < 18446744073709551616 → every is_word ws ≡ true → every is_word (kept w ws) ≡ true
unfolding every
kept-words w ws h k =
    when-is (λ (l : List ℕ). every is_word l ≡ true) (eqb w 0) (λ _. k) (λ _. both-are (is_word w) (every is_word ws) (word-yes w h) k)

three-is-word : (k a b : ℕ) → k < 32 → three_word k a b < 18446744073709551616
three-is-word k a b h = omega arith

joined_words : (a b : ℕ) (ws : List ℕ) → a < 18446744073709551616 → b < 18446744073709551616 → every is_word ws ≡ true → every is_word (joined a b ws) ≡ true
unfolding joined every
joined_words a b [] h k e = kept-words a (kept b []) h (kept-words b [] k e)
joined_words a b (w ∷ ws) h k e =
    let t = both_true (is_word w) (every is_word ws) e in
    let fits = ltb-true w 18446744073709551616 t.0 in
    by-joining (λ l. every is_word l ≡ true) a b w ws
    (λ j. joined_words a (with_byte b w) ws h (joined-byte-fits b w j fits) t.1)
    (λ _. joined_words 0 (three_word 15 a b) ws (omega arith) (three-is-word 15 a b (omega arith)) t.1)
    (λ _. joined_words 0 (three_word 10 a b) ws (omega arith) (three-is-word 10 a b (omega arith)) t.1)
    (kept-words a (joined b w ws) h (joined_words b w ws k fits t.1))

pub packed-words : (pair : Pair) (p : List ℕ) → pattern_check p ≡ Ok tt → every is_word (packed pair p) ≡ true
unfolding packed
packed-words pair p h =
    joined_words 0 0 (part_words pair 256 (contents p)) (omega arith) (omega arith) (parts-are-words pair 256 (contents p) (omega arith) (pattern-packs p h))
