-- The numbers of a refusal fit a row.
use mathlib.Core.List.{List, [], ◌∷◌}
use mathlib.Core.Path.{◌≡◌}
use Prim.Native.Nat.{ℕ, ◌*◌, ◌≤◌}
use native.Mathlib.Omega.{arith}
use lib.ListN.{length, take, length-append, length-map, length-take}
use Rattle.meaning.specs.Names.{Book}
use Rattle.meaning.specs.Whole.{Walk, refused_at, walk}
use Rattle.meaning.specs.declared.Choices.{Choices}
use Rattle.meaning.specs.declared.Refusal.{Refusal}
use Rattle.rows.proofs.Fits.{WalkFits, walk-fits}
use Rattle.rows.specs.Fits.{NumberFits, WhyFits}
use Rattle.words.proofs.pieces.Codes.{few-pieces}
use Rattle.words.specs.Pieces.{pieces_in, piece_step, steps_in, steps_of}

few-steps : (row ws : List ℕ) → length (steps_of row ws) ≤ 6 * length ws
unfolding steps_of steps_in
few-steps row [] = omega arith
few-steps row (w ∷ ws) =
    omega (arith, length-append (steps_in row w) (steps_of row ws), length-map (pieces_in w) (piece_step row), few-pieces w, few-steps row ws)

pub walk-fit : (choices : Choices) (book : Book) (current : ℕ) (row s : List ℕ) (used : ℕ) → used * 8 ≤ 9223372036854775807 → NumberFits (length s)
    → WalkFits (walk choices book current 0 0 (steps_of row (take used row)) s [])
walk-fit choices book current row s used h k =
    walk-fits choices book current 0 0 (steps_of row (take used row)) s [] (omega (arith, few-steps row (take used row), length-take used row)) (omega arith)

pub why-fit : {w : Walk} {why : Refusal} → WalkFits w → w ≡ refused_at why → WhyFits why
why-fit fits e = rw e at fits
