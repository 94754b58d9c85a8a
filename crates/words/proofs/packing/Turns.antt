-- What is left to be packed when a part of a pattern is: from the start of the pattern, part by part, to its end.
use Rattle.std.specs.Prelude.{Ok}
use mathlib.Core.List.{List, [], ◌∷◌, ◌++◌}
use mathlib.Core.Path.{◌≡◌, refl, sym, ap, ◌∙◌}
use Prim.Native.Nat.{ℕ, suc, ◌+◌, ◌-◌, ◌≤◌}
use native.Mathlib.Omega.{arith}
use lib.ListN.{length, set, drop, length-append, drop_of_length-le}
use lib.Seq.{sets}
use Rattle.laws.proofs.Checks.{pattern-fine}
use Rattle.laws.proofs.Laid.{sets-append, set-sets}
use Rattle.laws.specs.Laid.{Laid}
use Rattle.meaning.specs.Answers.{pattern_check}
use Rattle.meaning.specs.Splitting.{Content, elements, outside, contents}
use Rattle.meaning.specs.declared.Pair.{Pair}
use Rattle.meaning.specs.declared.Part.{Part}
use Rattle.pattern.specs.First.{content_of}
use Rattle.pattern.specs.Next.{Next}
use Rattle.words.proofs.PackedRoom.{packed-short}
use Rattle.words.proofs.pending.Steps.{kept-laid, kept-end, kept-fits}
use Rattle.words.specs.Joins.{pending_words, Joins}
use Rattle.words.specs.Laying.{Holds}
use Rattle.words.specs.Packing.{held_in, part_word, part_words, held_of, kept, joined, packed, held_by}
use Rattle.words.specs.declared.pending.Pending.{Pending}

-- lists that are laid apart may be laid in any order
sets-apart : (l : List ℕ) (i : ℕ) (a : List ℕ) (j : ℕ) (b : List ℕ) → i + length a ≤ j → sets (sets l j b) i a ≡ sets (sets l i a) j b
sets-apart l i a j [] h = refl
sets-apart l i a j (x ∷ b) h =
    sets-apart (set l j x) i a (suc j) b (omega arith) ∙ ap (λ (m : List ℕ). sets m (suc j) b) (sym (set-sets l i a j x h))

-- where the bytes start that a pattern's words hold
abbrev pub held_start : List ℕ → ℕ
held_start p = 256 - length (held_by p)

-- the words and the held bytes have room, and do not meet
pub packed-fits : (pair : Pair) (p : List ℕ) → pattern_check p ≡ Ok tt → length (packed pair p) + length (held_by p) ≤ 256
packed-fits pair p h = omega (arith, packed-short pair p h, (pattern-fine p h).short)

-- what is laid, and the words and held bytes of what is left of the pattern, are all that the pattern is packed into
pub record Left (pair : Pair) (p row tail : List ℕ) (pending : Pending) (held place : ℕ) : Type 0 where
  pub words : pending.used + length (pending_words pending (part_words pair held (contents (drop place p)))) ≡ length (packed pair p)
  pub start : held ≡ held_start p + length (held_of (contents (drop place p)))
  pub most : held ≤ 256
  pub laid : sets (sets tail pending.used (pending_words pending (part_words pair held (contents (drop place p))))) (held_start p) (held_of (contents (drop place p)))
      ≡ sets (sets row 0 (packed pair p)) (held_start p) (held_by p)
  pub long : length tail ≡ length row

pub all_left : (pair : Pair) (p row : List ℕ) → pattern_check p ≡ Ok tt → Left pair p row row (record { used = 0; first = 0; second = 0 }) 256 0
unfolding packed held_by
all_left pair p row h =
    record {
      words = omega arith;
      start = omega (arith, packed-fits pair p h);
      most = omega arith;
      laid = refl;
      long = refl;
    }

-- what stands behind a part
abbrev pub behind_part : List ℕ → ℕ → Part → List Content
behind_part p place part = contents (drop (place + part.length) p)

module _ {pair : Pair} {p row tail : List ℕ} {pending : Pending} {held place : ℕ} {part : Part} (fine : pattern_check p ≡ Ok tt)
    (left : Left pair p row tail pending held place) (next : Next p place part) where
  -- the part's words and those behind them, once it is known where its held bytes start
  pub words-next : (at : ℕ) → at ≡ held - length (held_in (content_of p part))
      → part_words pair held (contents (drop place p)) ≡ part_word pair at (content_of p part) ∷ part_words pair at (behind_part p place part)
  unfolding part_words
  words-next at e = rw (next.walk, e)

  held_next : held_of (contents (drop place p)) ≡ held_of (behind_part p place part) ++ held_in (content_of p part)
  unfolding held_of
  held_next = rw next.walk

  starts-next : held ≡ held_start p + length (held_of (behind_part p place part)) + length (held_in (content_of p part))
  starts-next = omega (arith, left.start, ap length held_next ∙ length-append (held_of (behind_part p place part)) (held_in (content_of p part)))

  -- there is room for what the part holds, and for the words
  pub part-few : part.length ≤ 256
  part-few = omega (arith, next.fits, (pattern-fine p fine).short)

  pub held-few : length (held_in (content_of p part)) ≤ held
  held-few = omega (arith, starts-next)

  pub words-few : (at : ℕ) → at ≡ held - length (held_in (content_of p part))
      → pending.used + length (pending_words pending (part_word pair at (content_of p part) ∷ part_words pair at (behind_part p place part))) ≤ 256
  words-few at e = omega (arith, rw (words-next at e) at left.words, packed-fits pair p fine)

  pub left-next : {between after : List ℕ} {word at : ℕ} {joined' : Pending} → word ≡ part_word pair at (content_of p part)
      → Holds tail between held (held_in (content_of p part)) at → Joins between after pending word joined' → length after ≡ length tail
      → Left pair p row after joined' at (place + part.length)
  left-next {between} {after} {word} {at} {joined'} e h j long =
      let ws = part_words pair at (behind_part p place part) in
      let words = rw (words-next at h.start, ← e) at left.words in
      let laid = rw (words-next at h.start, ← e, held_next) at left.laid in
      let behind : at ≡ held_start p + length (held_of (behind_part p place part)) = omega (arith, h.start, starts-next) in
      let apart : pending.used + length (pending_words pending (word ∷ ws)) ≤ at = omega (arith, words, packed-fits pair p fine, behind) in
      let before : held_start p + length (held_of (behind_part p place part)) ≤ at = omega arith in
      record {
        words = j.end ws ∙ words;
        start = behind;
        most = omega (arith, h.start, left.most);
        laid =
            rw (
              j.laid ws,
              h.laid,
              sets-apart tail pending.used (pending_words pending (word ∷ ws)) at (held_in (content_of p part)) apart,
              sets-apart (sets tail pending.used (pending_words pending (word ∷ ws))) (held_start p) (held_of (behind_part p place part)) at (held_in (content_of p part)) before,
            )
            (rw (sets-append, ← behind) at laid);
        long = long ∙ left.long;
      }

-- behind the last part the two words that are pending are final
module _ {pair : Pair} {p row tail : List ℕ} {pending : Pending} {held place : ℕ} (fine : pattern_check p ≡ Ok tt)
    (left : Left pair p row tail pending held place) (done : length p ≤ place) where
  none_left : contents (drop place p) ≡ []
  unfolding contents elements outside
  none_left = rw (drop_of_length-le p done)

  last-words : pending.used + length (kept pending.first (kept pending.second [])) ≡ length (packed pair p)
  unfolding part_words joined
  last-words = rw none_left at left.words

  last-laid : sets tail pending.used (kept pending.first (kept pending.second [])) ≡ sets (sets row 0 (packed pair p)) (held_start p) (held_by p)
  unfolding part_words held_of joined
  last-laid = rw none_left at left.laid

  pub held-last : held ≡ held_start p
  unfolding held_of
  held-last = omega (arith, rw none_left at left.start)

  pub first_fits : pending.used + length (kept pending.first []) ≤ 256
  first_fits = omega (arith, kept-fits pending.first (kept pending.second []), last-words, packed-fits pair p fine)

  module _ {between : List ℕ} {next : ℕ} (first : Laid tail between pending.used next (kept pending.first [])) where
    pub second_fits : next + length (kept pending.second []) ≤ 256
    second_fits = omega (arith, kept-end pending.first first (kept pending.second []), last-words, packed-fits pair p fine)

    pub all-packed : {after : List ℕ} {used : ℕ} → Laid between after next used (kept pending.second [])
        → (used ≡ length (packed pair p)) × (held ≡ held_start p) × (after ≡ sets (sets row 0 (packed pair p)) held (held_by p))
    all-packed {after} {used} second = (
      second.end ∙ kept-end pending.first first (kept pending.second []) ∙ last-words,
      held-last,
      rw held-last (second.held ∙ kept-laid pending.first first (kept pending.second []) ∙ last-laid),
    )
