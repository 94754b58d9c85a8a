-- What the steps of words read, where the year has passed its check.
use Rattle.std.specs.Prelude.{Ok}
use mathlib.Core.List.{List, []}
use mathlib.Core.Path.{◌≡◌}
use Prim.Native.Nat.{ℕ}
use lib.IntN.{ℤ, nat_abs}
use Rattle.meaning.specs.Answers.{current_year_check, text_check}
use Rattle.meaning.specs.Names.{Book}
use Rattle.meaning.specs.Whole.{walk, read_by}
use Rattle.meaning.specs.Writing.{Step}
use Rattle.meaning.specs.declared.Choices.{Choices}
use Rattle.meaning.specs.Prepared.{read_steps}

pub steps-read : (choices : Choices) (book : Book) (ss : List Step) (s : List ℕ) (current : ℤ) → current_year_check choices.edition current ≡ Ok tt
    → read_steps (Ok tt) choices book ss s current ≡ read_by (text_check s) (walk choices book (nat_abs current) 0 0 ss s [])
unfolding read_steps
steps-read choices book ss s current e = rw e
