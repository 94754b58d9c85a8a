-- A literal that is compared where the reading is strict and its bytes are there, and then passed over: that is how it is read.
use mathlib.Core.Bool.{Bool, true, false}
use mathlib.Core.List.{List, [], ◌∷◌, map}
use mathlib.Core.Path.{◌≡◌, refl}
use Prim.Native.Nat.{ℕ, ◌+◌, ◌-◌, ◌≤◌, ◌<◌, ◌%◌, min}
use native.Mathlib.Nat.{add-zero}
use native.Mathlib.Numerals.{add-one}
use native.Mathlib.Omega.{arith}
use lib.Dec.{leb}
use lib.ListN.{length, get_or, take, drop, length-drop, drop_of_length-le}
use lib.Seq.{drop-cons, drop-length, take_all, take-length, take-nil}
use borrow.Author.Tests.{leb-true, leb-false}
use Rattle.laws.proofs.Readers.{skip_goes_on, skip-stops, no_byte}
use Rattle.laws.proofs.Tests.{by-test}
use Rattle.meaning.specs.Names.{english}
use Rattle.meaning.specs.Reading.{passed, literal_read, read_step}
use Rattle.meaning.specs.Writing.{literal}
use Rattle.meaning.specs.declared.Edition.TheVariants.{First}
use Rattle.meaning.specs.declared.Pair.TheVariants.{Full}
use Rattle.meaning.specs.declared.Trouble.TheVariants.{TooFew, LiteralDiffers}
use Rattle.parse.proofs.literals.Strict.{strict_by, compared-read}
use Rattle.parse.specs.Literals.{compared_from}
use Rattle.parse.specs.Steps.{part_at}
use Rattle.parse.proofs.cursor.Moves.{stop}
use Rattle.std.specs.Prelude.{Ok, Err, Some, None}
use Rattle.words.specs.Pieces.{held_bytes}

-- the bytes that words hold, one after the other
abbrev pub low_bytes : List ℕ → List ℕ
low_bytes held = map (λ w. w % 256) held

pub held-turn : (held : List ℕ) (i : ℕ) → i < length held → low_bytes (drop i held) ≡ get_or held i 0 % 256 ∷ low_bytes (drop (i + 1) held)
held-turn held i h = rw (drop-cons held i 0 h, add-one i)

-- those of the row from a place on, so many as there are
take-most : (n : ℕ) (l : List ℕ) → take (min n (length l)) l ≡ take n l
take-most n l =
    by-test (leb n (length l)) (λ e. let h = leb-true n (length l) e in let m : min n (length l) ≡ n = omega arith in rw m)
    (λ e.
    let h = leb-false n (length l) e in
    let m : min n (length l) ≡ length l = omega arith in
    rw (m, take-length l, take_all n l (omega arith)))

pub held-part : (row : List ℕ) (from count : ℕ)
    → low_bytes (take (min from (length row) + min count (length row - min from (length row)) - min from (length row)) (drop (min from (length row)) row))
    ≡ held_bytes row from count
unfolding held_bytes
held-part row from count =
    by-test (leb from (length row))
    (λ e.
    let h = leb-true from (length row) e in
    let m : min from (length row) ≡ from = omega arith in
    let k : from + min count (length row - from) - from ≡ min count (length row - from) = omega arith in
    rw (m, k, ← length-drop from row, take-most count (drop from row)))
    (λ e.
    let h = leb-false from (length row) e in
    let m : min from (length row) ≡ length row = omega arith in
    rw (m, drop-length row, drop_of_length-le row {i = from} (omega arith)) (simp take-nil))

nil-of : (w : List ℕ) → length w ≤ 0 → w ≡ []
nil-of [] h = refl
nil-of (a ∷ w) h = absurd (omega arith)

module _ (w text : List ℕ) (at k : ℕ) (long : length w ≡ k) where
  abbrev rest : List ℕ
  rest = drop at text

  read_by : (strict : Bool) → part_at at (literal_read strict w rest) ≡ strict_by strict (literal w false) text (part_at at (passed k rest))
  unfolding read_step
  read_by strict = rw (← long) (compared-read text at (record { pair = Full; strict = strict; edition = First }) english 0 (literal w false))

  there : k ≤ length text - at → part_at at (passed k rest) ≡ Ok (record { value = None; next = record { at = at + k } })
  there h = rw (skip_goes_on k rest (rw length-drop h), add-zero)

  start : at + k - length w ≡ at
  start = omega (arith, long)

  abbrev pub Passes : Bool → Type 0
  Passes strict = part_at at (passed k rest) ≡ part_at at (literal_read strict w rest)

  pub unseen-passes : {strict : Bool} → strict ≡ false → Passes strict
  unseen-passes e = rw (e, long)

  pub short-passes : (strict : Bool) → length text - at < k → Passes strict
  short-passes strict h =
      let stops : part_at at (passed k rest) ≡ Err (stop TooFew at) = rw (skip-stops k rest (rw length-drop h), add-zero) in
      rw (read_by strict, stops)

  pub same-passes : (strict : Bool) → k ≤ length text - at → compared_from at w text ≡ None → Passes strict
  same-passes true h e = rw (read_by true, there h, start, e)
  same-passes false h e = rw long

  -- no byte differs where there is none
  pub no_bytes : (strict : Bool) → k ≤ 0 → Passes strict
  no_bytes strict h =
      let none : w ≡ [] = nil-of w (omega (arith, long)) in
      same-passes strict (omega arith) (rw (none, no_byte at (drop at text)))

  pub differs-stops : {strict : Bool} {place : ℕ} → strict ≡ true → k ≤ length text - at → compared_from at w text ≡ Some place
      → Err (stop LiteralDiffers place) ≡ part_at at (literal_read strict w rest)
  differs-stops s h e = rw (s, read_by true, there h, start, e)
