-- The words of an accepted pattern, with the bytes that they hold at the end of a row, stand for the pattern's steps.
use Rattle.std.specs.Prelude.{Ok}
use mathlib.Core.List.{List, [], ◌∷◌, ◌++◌, map}
use mathlib.Core.Path.{◌≡◌, refl, ap, sym, ◌∙◌}
use Prim.Native.Nat.{ℕ, ◌+◌, ◌-◌, ◌≤◌}
use native.Mathlib.Omega.{arith}
use lib.ListN.{length, take, drop, length-append}
use lib.Seq.{take-add, take-append_seam, drop-append_seam, take-length, drop-drop, take-take}
use Rattle.meaning.specs.Answers.{pattern_check}
use Rattle.meaning.specs.Splitting.{Content, contents}
use Rattle.meaning.specs.Writing.{step_of, steps}
use Rattle.meaning.specs.declared.Pair.{Pair}
use Rattle.laws.proofs.Checks.{pattern-fine}
use Rattle.words.specs.Packing.{held_in, held_of, held_by, part_word, part_words, packed}
use Rattle.words.specs.Pieces.{pieces_of_code, pieces_in, steps_in, steps_of}
use Rattle.words.proofs.Joining.{joined-stands}
use Rattle.words.proofs.PackedParts.{AllPack, pattern-packs}
use Rattle.words.proofs.PackedRoom.{packed-short}
use Rattle.words.proofs.PartWords.{part-stands}

-- what lies in a row, one behind the other: the first, and the second
first-held : (x y l : List ℕ) → take (length (x ++ y)) l ≡ x ++ y → take (length x) l ≡ x
first-held x y l h =
    let few : length x ≤ length (x ++ y) = omega (arith, length-append x y) in
    sym (take-take (length x) (length (x ++ y)) l few) ∙ rw h (take-append_seam x y)

second-held : (x y l : List ℕ) → take (length (x ++ y)) l ≡ x ++ y → take (length y) (drop (length x) l) ≡ y
second-held x y l h =
    let rest = take (length y) (drop (length x) l) in
    let whole : x ++ rest ≡ x ++ y =
    ap (λ (z : List ℕ). z ++ rest) (sym (first-held x y l h)) ∙ sym (take-add (length x) (length y) l) ∙ ap (λ (n : ℕ). take n l) (sym (length-append x y)) ∙ h in
    sym (drop-append_seam x rest) ∙ ap (drop (length x)) whole ∙ drop-append_seam x y

steps-cons : (row : List ℕ) (w : ℕ) (ws : List ℕ) → steps_of row (w ∷ ws) ≡ steps_in row w ++ steps_of row ws
unfolding steps_of
steps-cons row w ws = refl

none-stands : (row : List ℕ) → steps_in row 0 ≡ []
unfolding steps_in pieces_in pieces_of_code
none-stands row = refl

module _ (pair : Pair) (row : List ℕ) where
  parts-stand : (at : ℕ) (cs : List Content) → at ≤ 256 → length (held_of cs) ≤ at → AllPack cs
      → take (length (held_of cs)) (drop (at - length (held_of cs)) row) ≡ held_of cs → steps_of row (part_words pair at cs) ≡ map (step_of pair) cs
  unfolding part_words held_of
  parts-stand at [] here room h e = unfold steps_of in refl
  parts-stand at (c ∷ cs) here room h e =
      let next = at - length (held_in c) in
      let start = at - length (held_of cs ++ held_in c) in
      let sum = length-append (held_of cs) (held_in c) in
      let rest : next - length (held_of cs) ≡ start = omega arith in
      let own : start + length (held_of cs) ≡ next = omega arith in
      let first = first-held (held_of cs) (held_in c) (drop start row) e in
      let second = second-held (held_of cs) (held_in c) (drop start row) e in
      let lies : take (length (held_in c)) (drop next row) ≡ held_in c = rw (← own, ← drop-drop (length (held_of cs)) start row) second in
      let below : take (length (held_of cs)) (drop (next - length (held_of cs)) row) ≡ held_of cs = rw rest first in
      let part = part-stands row pair next c (omega arith) h.0 lies in
      let behind = parts-stand next cs (omega arith) (omega arith) h.1 below in
      steps-cons row (part_word pair next c) (part_words pair next cs) ∙ rw (part, behind)

pub packed-stands : (pair : Pair) (p row : List ℕ) → pattern_check p ≡ Ok tt → drop (256 - length (held_by p)) row ≡ held_by p
    → steps_of row (packed pair p) ≡ steps pair p
unfolding packed held_by steps
packed-stands pair p row h e =
    let short = packed-short pair p h in
    let few = (pattern-fine p h).short in
    let held = held_of (contents p) in
    let lies : take (length held) (drop (256 - length held) row) ≡ held = rw e (take-length held) in
    joined-stands row 0 0 (part_words pair 256 (contents p))
    ∙ rw (none-stands row) (parts-stand pair row 256 (contents p) (omega arith) (omega arith) (pattern-packs p h) lies)
