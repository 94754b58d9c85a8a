-- What a pattern reads of the text that it wrote.
use Rattle.std.specs.Prelude.{List, [], ◌∷◌, reverse, ℕ, ◌+◌, length}
use Rattle.meaning.specs.Names.{Book}
use Rattle.meaning.specs.Reading.{carried_step}
use Rattle.meaning.specs.Whole.{Gave}
use Rattle.meaning.specs.Writing.{Step, step_text}
use Rattle.meaning.specs.declared.Fields.{Fields}

-- what parts give of their own texts, which stand one behind the other from a place on: each the value that it carries of the
-- record, with where its own text starts and ends
unfoldable pub gave_from : Book → Fields → ℕ → List Step → List Gave
unfolding step_text carried_step
gave_from book f at [] = []
gave_from book f at (s ∷ ss) =
    record { carried = carried_step s f; start = at; end = at + length (step_text book f s) } ∷ gave_from book f (at + length (step_text book f s)) ss

-- the same, the newest first: of a unit that two parts carry, the last one's value stands
abbrev pub gave_by : Book → Fields → ℕ → List Step → List Gave
gave_by book f at ss = reverse (gave_from book f at ss)
