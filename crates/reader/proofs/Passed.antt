-- By a pattern and in a year that pass their checks, a reading is what the checks of the text say, and else the walk.
use Rattle.std.specs.Prelude.{Ok}
use mathlib.Core.List.{List, []}
use mathlib.Core.Path.{◌≡◌, refl}
use Prim.Native.Nat.{ℕ}
use lib.IntN.{ℤ, nat_abs}
use Rattle.laws.proofs.Checks.{read-checks}
use Rattle.meaning.specs.Answers.{text_check}
use Rattle.meaning.specs.Names.{Book}
use Rattle.meaning.specs.Trust.{trust_check}
use Rattle.meaning.specs.Whole.{walk, read_by, read}
use Rattle.meaning.specs.Writing.{steps}
use Rattle.meaning.specs.Results.{Checked}
use Rattle.meaning.specs.declared.Choices.{Choices}

pub read-passed : (choices : Choices) (book : Book) (p s : List ℕ) (current : ℤ) {checked : Checked} → trust_check choices.edition p current ≡ Ok tt
    → checked ≡ text_check s
    → read choices book p s current ≡ read_by checked (walk choices book (nat_abs current) 0 0 (steps choices.pair p) s [])
unfolding read
read-passed choices book p s current passed same = rw (read-checks choices.edition p s current, passed, same) refl
