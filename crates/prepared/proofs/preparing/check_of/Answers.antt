-- The two parts of the row.
use mathlib.Core.Path.{◌∙◌}
use native.Mathlib.Omega.{arith}
use Rattle.prepared.proofs.opening.Parts.{steps-there, held-there}
use Rattle.prepared.proofs.preparing.check_of.Goals as goal

pub returns : goal.returns
returns c =
    let a = c.args in
    let row = a.row.now in
    c.check_word.ensures
    ∙ rw (c.check_word-of_steps.ensures, steps-there a.used row (omega arith), held-there a.held row (omega arith) (omega arith))
