-- The walk over the pieces of words: a word is done, a piece more, and the end.
use Rattle.std.specs.Prelude.{Err, Option}
use mathlib.Core.Bool.{false, true}
use mathlib.Core.List.{List, [], ◌∷◌, ◌++◌}
use mathlib.Core.Logic.{◌⊎◌}
use mathlib.Core.Path.{◌≡◌}
use Prim.Native.Nat.{ℕ, ◌+◌, ◌≤◌, ◌<◌}
use native.Mathlib.Numerals.{add-one}
use native.Mathlib.Omega.{arith}
use lib.ListN.{length, get_or, take, drop, length-append, length-map, length-take, drop_of_length-le, get_or-append, get_or-map}
use lib.Seq.{drop-cons, drop_at, drop-nil, get_or-take}
use Rattle.meaning.specs.Names.{Book}
use Rattle.meaning.specs.Reading.{read_step}
use Rattle.meaning.specs.Whole.{Gave, Walk, walked, refused_at, walk}
use Rattle.meaning.specs.Writing.{Step}
use Rattle.meaning.specs.declared.Carried.{Carried}
use Rattle.meaning.specs.declared.Choices.{Choices}
use Rattle.meaning.specs.declared.Refusal.TheVariants.{InPart, TextLeft}
use Rattle.parse.proofs.rule.Within.{within_step}
use Rattle.parse.proofs.steps.Within.{part_stays}
use Rattle.parse.specs.Steps.{part_at}
use Rattle.parse.specs.declared.cursor.Read.{Read}
use Rattle.parse.specs.declared.cursor.Stop.{Stop}
use Rattle.std.specs.Prelude.{Result, Ok, Err}
use Rattle.reader.proofs.walk.Walks.{walk_by, walk-on, end-left, end-done}
use Rattle.words.specs.Pieces.{once, piece_step, pieces_in, steps_in, steps_of}
use Rattle.words.specs.declared.pieces.Piece.{Piece}

-- the steps of a word, and behind them those of the next
module _ (row ws : List ℕ) (i : ℕ) (there : i < length ws) where
  abbrev pieces : List Piece
  pieces = pieces_in (get_or ws i 0)

  pub word-steps : steps_of row (drop i ws) ≡ steps_in row (get_or ws i 0) ++ steps_of row (drop (i + 1) ws)
  unfolding steps_of
  word-steps = rw (drop-cons ws i 0 there, add-one i)

  steps-long : length (steps_in row (get_or ws i 0)) ≡ length pieces
  unfolding steps_in
  steps-long = length-map pieces (piece_step row)

  steps-past : (k : ℕ) → k ≡ length pieces → drop k (steps_of row (drop i ws)) ≡ steps_of row (drop (i + 1) ws)
  steps-past k e =
      rw word-steps (drop_at (steps_in row (get_or ws i 0)) (steps_of row (drop (i + 1) ws)) k (omega (arith, steps-long, e)))

  steps_next : (k : ℕ) → k < length pieces
      → drop k (steps_of row (drop i ws)) ≡ piece_step row (get_or pieces k (once 0)) ∷ drop (k + 1) (steps_of row (drop i ws))
  unfolding steps_in
  steps_next k h =
      let own = steps_in row (get_or ws i 0) in
      let behind = steps_of row (drop (i + 1) ws) in
      let other = piece_step row (once 0) in
      let inside : k < length own = omega (arith, steps-long) in
      rw (
        word-steps,
        drop-cons (own ++ behind) k other (omega (arith, length-append own behind)),
        get_or-append own behind other k inside,
        get_or-map (piece_step row) pieces k (once 0),
        add-one k,
      )

module _ (choices : Choices) (book : Book) (current : ℕ) (row text : List ℕ) (used : ℕ) (fits : used ≤ length row) (gave : List Gave) (part at i k : ℕ) where
  -- the walk that is left at a piece of a word
  abbrev Left : Walk → Type 0
  Left w = walk choices book current part at (drop k (steps_of row (drop i (take used row)))) (drop at text) gave ≡ w

  module _ (there : i < used) where
    inside : i < length (take used row)
    inside = omega (arith, length-take used row)

    pub word-ends : k ≡ length (pieces_in (get_or row i 0)) → Left (walk choices book current part at (steps_of row (drop (i + 1) (take used row))) (drop at text) gave)
    word-ends e = rw (steps-past row (take used row) i inside k (rw (get_or-take used row i 0 there) e))

    module _ (more : k < length (pieces_in (get_or row i 0))) {piece : Piece} (is : piece ≡ get_or (pieces_in (get_or row i 0)) k (once 0)) where
      abbrev Gives : Result (Read (Option Carried)) Stop → Type 0
      Gives g = part_at at (read_step choices book current (piece_step row piece) (drop at text)) ≡ g

      piece-here : drop k (steps_of row (drop i (take used row))) ≡ piece_step row piece ∷ drop (k + 1) (steps_of row (drop i (take used row)))
      piece-here =
          rw (is, ← get_or-take used row i 0 there)
          (steps_next row (take used row) i inside k (rw (get_or-take used row i 0 there) more))

      turn : {g : Result (Read (Option Carried)) Stop} → Gives g → Left (walk_by choices book current part text gave at (drop (k + 1) (steps_of row (drop i (take used row)))) g)
      turn e =
          rw (← e, piece-here)
          (walk-on choices book current part text gave at (piece_step row piece) (drop (k + 1) (steps_of row (drop i (take used row)))))

      pub piece-stops : {stop : Stop} → Gives (Err stop) → Left (refused_at (InPart stop.trouble part stop.place))
      piece-stops e = turn e

      pub piece-goes-on : {read : Read (Option Carried)} → Gives (Ok read)
          → Left (walk_by choices book current part text gave at (drop (k + 1) (steps_of row (drop i (take used row)))) (Ok read))
      piece-goes-on e = turn e

  module _ (end : used ≤ i) where
    none_left : drop k (steps_of row (drop i (take used row))) ≡ []
    unfolding steps_of
    none_left = rw (drop_of_length-le (take used row) {i = i} (omega (arith, length-take used row)), drop-nil k)

    pub words_left : choices.strict ≡ true → at < length text → Left (refused_at (TextLeft at))
    words_left strict h = rw none_left (end-left choices book current part text gave at strict h)

    pub words-done : (choices.strict ≡ false) ⊎ (length text ≤ at) → Left (walked at gave)
    words-done ends = rw none_left (end-done choices book current part text gave at ends)

-- a cursor that a piece moves on stays in the text
pub piece_inside : (choices : Choices) (book : Book) (current : ℕ) (text : List ℕ) (at : ℕ) (step : Step) {read : Read (Option Carried)}
    → part_at at (read_step choices book current step (drop at text)) ≡ Ok read → at ≤ length text → read.next.at ≤ length text
piece_inside choices book current text at step e h =
    part_stays at text (read_step choices book current step (drop at text)) h (within_step choices book current step (drop at text)) e
