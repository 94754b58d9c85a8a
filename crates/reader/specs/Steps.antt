-- The step of the part that begins at a place of a pattern; behind the last part it stands for nothing.
use Rattle.std.specs.Prelude.{false, List, [], ◌∷◌, ℕ, drop}
use Rattle.meaning.specs.Writing.{Step, literal, steps}
use Rattle.meaning.specs.declared.Pair.{Pair}

abbrev pub first_of : List Step → Step
first_of [] = literal [] false
first_of (step ∷ steps) = step

abbrev pub step_at : Pair → List ℕ → ℕ → Step
step_at pair p place = first_of (steps pair (drop place p))
