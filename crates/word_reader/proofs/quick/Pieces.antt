-- The steps of a word, one more at a time; a symbol with the byte behind it; and one word more.
use mathlib.Core.List.{List, [], ◌∷◌, ◌++◌, map}
use mathlib.Core.Path.{◌≡◌}
use Prim.Native.Nat.{ℕ, ◌+◌, ◌≤◌, ◌<◌}
use native.Mathlib.Numerals.{add-one}
use native.Mathlib.Omega.{arith}
use lib.IntN.{ℤ}
use lib.ListN.{length, get_or, take, drop, length-map, length-take, get_or-map}
use lib.Seq.{take-suc, take_all, get_or-take}
use Rattle.meaning.specs.Names.{Book}
use Rattle.meaning.specs.Reading.{read_rule, read_step}
use Rattle.meaning.specs.Whole.{Gave, walk}
use Rattle.meaning.specs.Writing.{field}
use Rattle.meaning.specs.declared.Choices.{Choices}
use Rattle.meaning.specs.declared.Rule.{Rule}
use Rattle.parse.specs.Steps.{part_at}
use Rattle.meaning.specs.declared.Carried.{Carried}
use Rattle.parse.specs.declared.cursor.Read.{Read}
use Rattle.parse.specs.declared.cursor.Stop.{Stop}
use Rattle.std.specs.Prelude.{Result, Some, Option}
use Rattle.words.proofs.pieces.Codes.{of_code}
use Rattle.words.specs.Coding.{rule_in}
use Rattle.words.specs.Fields.{code}
use Rattle.words.specs.Pieces.{once, piece_step, behind, pieces_of_code, pieces_in, steps_in, steps_of}
use Rattle.words.specs.declared.pieces.Piece.{Piece}
use Rattle.word_reader.proofs.exact.Pieces.{word-steps}
use Rattle.word_reader.proofs.keeping.Moving.{moves-then, kept_then}
use Rattle.word_reader.specs.Quick.{Moves, Kept, Quick, Behind}
use Rattle.word_reader.specs.declared.keeping.Moved.{Moved}

module _ (row : List ℕ) (w k : ℕ) where
  steps-long : length (steps_in row w) ≡ length (pieces_in w)
  unfolding steps_in
  steps-long = length-map (pieces_in w) (piece_step row)

  pub piece-more : {piece : Piece} → k < length (pieces_in w) → piece ≡ get_or (pieces_in w) k (once 0)
      → take (k + 1) (steps_in row w) ≡ take k (steps_in row w) ++ (piece_step row piece ∷ [])
  unfolding steps_in
  piece-more h is =
      rw (add-one k, is, take-suc (steps_in row w) k (piece_step row (once 0)) (omega (arith, steps-long)), get_or-map (piece_step row) (pieces_in w) k (once 0))

  pub pieces-all : length (pieces_in w) ≤ k → take k (steps_in row w) ≡ steps_in row w
  pieces-all h = take_all k (steps_in row w) (omega (arith, steps-long))

-- a symbol, and the byte behind it

pub rule-part : (choices : Choices) (book : Book) (current : ℕ) (text : List ℕ) (at : ℕ) (rule : Rule) {g : Result (Read (Option Carried)) Stop}
    → part_at at (read_rule choices.edition book current rule (drop at text)) ≡ g → part_at at (read_step choices book current (field rule) (drop at text)) ≡ g
unfolding read_step
rule-part choices book current text at rule e = e

pub rule-steps : (w : ℕ) (row : List ℕ) → code w ≡ 22 → steps_in row w ≡ field (rule_in w) ∷ map (piece_step row) (behind w)
unfolding steps_in pieces_of_code piece_step
rule-steps w row e = rw (of_code w e)

pub quick-symbol : (choices : Choices) (book : Book) (current w : ℕ) (row text : List ℕ) {rule : Rule} {from : Moved} {end : ℕ} {gs : List Gave} {old new : List ℤ} (r : Moved)
    → steps_in row w ≡ field rule ∷ map (piece_step row) (behind w) → Moves choices book current (field rule ∷ []) text from.next end gs
    → Behind choices w text end r.next → Kept gs old new from.mask r.mask → drop 48 new ≡ drop 48 old
    → Quick choices book current (steps_in row w) text from old new (Some r)
quick-symbol choices book current w row text {gs = gs} {new = new} r steps moves back kept beyond =
    record {
      beyond = beyond;
      reads =
          let last = back book current row in
          (last.0 ++ gs, rw steps (moves-then choices book current text moves last.1), kept_then kept (last.2 new r.mask));
    }

-- one word more
pub word_on : (choices : Choices) (book : Book) (current : ℕ) (row text : List ℕ) (used : ℕ) → used ≤ length row → (gave : List Gave) (n i : ℕ) → i < used → {at next : ℕ} {gs : List Gave}
    → Moves choices book current (steps_in row (get_or row i 0)) text at next gs
    → walk choices book current n at (steps_of row (drop i (take used row))) (drop at text) gave
    ≡ walk choices book current (n + length (steps_in row (get_or row i 0))) next (steps_of row (drop (i + 1) (take used row))) (drop next text) (gs ++ gave)
word_on choices book current row text used fits gave n i there moves =
    rw (word-steps row (take used row) i (omega (arith, length-take used row)), get_or-take used row i 0 there) (moves.goes n (steps_of row (drop (i + 1) (take used row))) gave)
