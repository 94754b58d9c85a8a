-- Two half patterns side by side: the join has the parts of the one and then those of the other, it is accepted, and to write it
-- is to write the one and, behind that, the other. The empty pattern is neutral.
use Rattle.std.specs.Prelude.{Result, Ok, Err}
use mathlib.Core.Bool.{false}
use mathlib.Core.List.{List, [], ◌∷◌, ◌++◌, map, append-nil, append_assoc, map-append}
use mathlib.Core.Path.{◌≡◌, refl, ap, ◌∙◌}
use Prim.Native.Nat.{ℕ, ◌+◌, ◌-◌}
use native.Mathlib.Nat.{add-zero}
use native.Mathlib.Omega.{arith}
use lib.ListN.{length, take, drop, length-append, length-drop, length-map}
use lib.Seq.{drop-drop, take-append_seam}
use Rattle.meaning.specs.Answers.{within, bytes_check, ends_in_lone_quote, pattern_check}
use Rattle.meaning.specs.Names.{Book}
use Rattle.meaning.specs.Splitting.{Content, contents, length_of, parts_from, parts}
use Rattle.meaning.specs.Whole.{split_into, split, text, write, output}
use Rattle.meaning.specs.Writing.{step_of, steps, texts}
use Rattle.meaning.specs.declared.Fields.{Fields}
use Rattle.meaning.specs.declared.Pair.{Pair}
use Rattle.meaning.specs.declared.Part.{Part}
use Rattle.meaning.specs.declared.Refusal.{Refusal}
use Rattle.meaning.specs.declared.Split.{Split}
use Rattle.laws.specs.Halves.{ends_open, starts_quoted, meet_equal, Beside, moved}
use Rattle.laws.proofs.Checks.{Accepted, pattern-fine, fine-bytes, fine-pattern, Writes}
use Rattle.laws.proofs.Seams as seams
use Rattle.laws.proofs.Splitting.{total, parts-fill}
use Rattle.laws.proofs.Tests.{every_append}
use Rattle.laws.proofs.Texts.{texts-join}
use Rattle.laws.proofs.Writes.{wrote-length, length-wrote, output-wrote}

-- how many parts an answer has
abbrev pub used_of : Result Split Refusal → ℕ
used_of (Ok s) = s.used
used_of (Err why) = 0

-- the parts of contents one after the other, and of those behind k bytes more

parts-from-join : (at : ℕ) (cs ds : List Content) → parts_from at (cs ++ ds) ≡ parts_from at cs ++ parts_from (at + total cs) ds
unfolding parts_from total
parts-from-join at [] ds = rw add-zero
parts-from-join at (c ∷ cs) ds =
    let e : at + (length_of c + total cs) ≡ at + length_of c + total cs = omega arith in
    rw (e, parts-from-join (at + length_of c) cs ds)

parts-from-moved : (k at : ℕ) (cs : List Content) → parts_from (k + at) cs ≡ map (moved k) (parts_from at cs)
unfolding parts_from
parts-from-moved k at [] = refl
parts-from-moved k at (c ∷ cs) =
    let e : k + at + length_of c ≡ k + (at + length_of c) = omega arith in
    rw (e, parts-from-moved k (at + length_of c) cs)

lone-quote : (p q : List ℕ) → starts_quoted p q ≡ false → meet_equal p q ≡ false
    → ends_in_lone_quote (contents p) ≡ false → ends_in_lone_quote (contents q) ≡ false → ends_in_lone_quote (contents (p ++ q)) ≡ false
lone-quote p [] closed apart h k = rw append-nil h
lone-quote p (b ∷ q) closed apart h k =
    rw (seams.contents-join p (b ∷ q) closed apart)
    (seams.lone-quote-join (contents p) (contents (b ∷ q)) (unfold starts_quoted in closed) ∙ k)

-- the first has no open quote at its end
pub no_open_quote : (p q : List ℕ) → ends_open (contents p) ≡ false → starts_quoted p q ≡ false
unfolding starts_quoted
no_open_quote p [] h = refl
no_open_quote p (b ∷ q) h = h

module _ {p q : List ℕ} (beside : Beside p q) where
  pub contents-join : contents (p ++ q) ≡ contents p ++ contents q
  contents-join = seams.contents-join p q beside.closed beside.apart

  -- all parts of the first before all parts of the second, which start as much later as the first is long
  pub parts_join : parts (p ++ q) ≡ parts p ++ map (moved (length p)) (parts q)
  unfolding parts
  parts_join =
      let start : 0 + total (contents p) ≡ length p + 0 = omega (arith, parts-fill p) in
      ap (parts_from 0) contents-join ∙ parts-from-join 0 (contents p) (contents q)
      ∙ ap (λ (ps : List Part). parts p ++ ps)
      (ap (λ (at : ℕ). parts_from at (contents q)) start ∙ parts-from-moved (length p) 0 (contents q))

  accepted : Accepted (p ++ q)
  accepted =
      let a = pattern-fine p beside.first in
      let b = pattern-fine q beside.second in
      record {
        short = omega (arith, length-append p q, beside.short);
        bytes = every_append (within 1 127) p q a.bytes b.bytes;
        quotes = lone-quote p q beside.closed beside.apart a.quotes b.quotes;
      }

  pub bytes-join : bytes_check (p ++ q) ≡ Ok tt
  bytes-join = fine-bytes (p ++ q) accepted

  pub check-join : pattern_check (p ++ q) ≡ Ok tt
  check-join = fine-pattern (p ++ q) accepted

  -- the split has these parts, and no part behind them
  pub split-join : split (p ++ q) ≡ Ok (split_into (parts p ++ map (moved (length p)) (parts q)))
  unfolding split
  split-join = rw (bytes-join, parts_join)

  pub used-join : used_of (split (p ++ q)) ≡ used_of (split p) + used_of (split q)
  unfolding split
  used-join =
      rw (bytes-join, fine-bytes p (pattern-fine p beside.first), fine-bytes q (pattern-fine q beside.second), parts_join)
      (length-append (parts p) (map (moved (length p)) (parts q)) ∙ rw (length-map (parts q) (moved (length p))))

  pub steps-join : (pair : Pair) → steps pair (p ++ q) ≡ steps pair p ++ steps pair q
  unfolding steps
  steps-join pair = ap (map (step_of pair)) contents-join ∙ map-append (step_of pair) (contents p) (contents q)

  pub text-join : (pair : Pair) (book : Book) (f : Fields) → text pair book (p ++ q) f ≡ text pair book p f ++ text pair book q f
  unfolding text
  text-join pair book f = ap (texts book f) (steps-join pair) ∙ texts-join book f (steps pair p) (steps pair q)

  -- To write the join is to write the one and, behind it, the other.
  module _ (pair : Pair) (book : Book) (f : Fields) (out : List ℕ) where
    abbrev one : List ℕ
    one = text pair book p f

    abbrev other : List ℕ
    other = text pair book q f

    length-join : length (text pair book (p ++ q) f) ≡ length one + length other
    length-join = ap length (text-join pair book f) ∙ length-append one other

    -- what is left behind the first
    room : length (drop (length one) out) ≡ length out - length one
    room = length-drop (length one) out

    writes-join : Writes pair book p f (length out) → Writes pair book q f (length (drop (length one) out))
        → Writes pair book (p ++ q) f (length out)
    writes-join a b =
        record { pattern = check-join; fields = a.fields; fits = omega (arith, length-join, room, a.fits, b.fits) }

    output-join : Writes pair book p f (length out) → Writes pair book q f (length (drop (length one) out))
        → output pair book (p ++ q) f out ≡ take (length one) (output pair book p f out) ++ output pair book q f (drop (length one) out)
    output-join a b =
        let first = output-wrote pair book p f out a in
        let second = output-wrote pair book q f (drop (length one) out) b in
        output-wrote pair book (p ++ q) f out (writes-join a b)
        ∙ rw (length-join, text-join pair book f, first, second, take-append_seam, drop-drop, append_assoc)

    pub write-join : {n m : ℕ} → write pair book p f out ≡ Ok n → write pair book q f (drop n out) ≡ Ok m
        → (write pair book (p ++ q) f out ≡ Ok (n + m))
        × (output pair book (p ++ q) f out ≡ take n (output pair book p f out) ++ output pair book q f (drop n out))
    write-join {n} {m} h k =
        let a = wrote-length pair book p f out h in
        let b = wrote-length pair book q f (drop (length one) out) (rw a.1 at k) in
        rw (a.1, b.1)
        (length-wrote pair book (p ++ q) f out (writes-join a.0 b.0) ∙ rw length-join, output-join a.0 b.0)

    -- and where the join is written, so are both
    pub write-halves : {l : ℕ} → write pair book (p ++ q) f out ≡ Ok l
        → (l ≡ length one + length other) × (write pair book p f out ≡ Ok (length one))
        × (write pair book q f (drop (length one) out) ≡ Ok (length other))
    write-halves h =
        let a = wrote-length pair book (p ++ q) f out h in (
          a.1 ∙ length-join,
          length-wrote pair book p f out
              (record { pattern = beside.first; fields = a.0.fields; fits = omega (arith, length-join, a.0.fits) }),
          length-wrote pair book q f (drop (length one) out)
              (record { pattern = beside.second; fields = a.0.fields; fits = omega (arith, length-join, room, a.0.fits) }),
        )

-- The empty pattern is neutral: it is beside every accepted pattern, before it and behind it, and has no part and no text.

empty-accepted : pattern_check [] ≡ Ok tt
unfolding pattern_check
empty-accepted = refl

nothing-met : (p : List ℕ) → meet_equal p [] ≡ false
unfolding meet_equal
nothing-met [] = refl
nothing-met (a ∷ []) = refl
nothing-met (a ∷ b ∷ p) = nothing-met (b ∷ p)

pub empty-first : (q : List ℕ) → pattern_check q ≡ Ok tt → Beside [] q
empty-first q h =
    record {
      first = empty-accepted;
      second = h;
      closed = no_open_quote [] q (unfold ends_open contents in refl);
      apart = unfold meet_equal in refl;
      short = omega (arith, (pattern-fine q h).short);
    }

pub empty-second : (p : List ℕ) → pattern_check p ≡ Ok tt → Beside p []
empty-second p h =
    record {
      first = h;
      second = empty-accepted;
      closed = unfold starts_quoted in refl;
      apart = nothing-met p;
      short = omega (arith, (pattern-fine p h).short);
    }

pub empty-parts : parts [] ≡ []
unfolding parts
empty-parts = refl

pub empty-text : (pair : Pair) (book : Book) (f : Fields) → text pair book [] f ≡ []
unfolding text
empty-text pair book f = refl
