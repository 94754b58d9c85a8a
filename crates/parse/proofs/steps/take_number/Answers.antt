-- What the take gives, with the value that stands for 0.
use borrow.Author.Rules.{rules}
use Rattle.parse.proofs.cursor.Moves.{left_by}
use lib.ListN.{drop}
use Rattle.numerals.proofs.Integers.{widened}
use Rattle.parse.proofs.steps.Parts.{part-number}
use Rattle.parse.proofs.steps.take_number.Goals as goal

pub returns-in_err-number : goal.returns-in_err-number
returns-in_err-number c =
    let a = c.args in
    rw (part-number a.unit a.zero a.k a.cursor.at (drop a.cursor.at a.text.now), ← c.take.ensures, c.in_err-number.was) (left_by c.from_residual.ensures.1)

pub returns : goal.returns
returns c =
    let a = c.args in
    rw (part-number a.unit a.zero a.k a.cursor.at (drop a.cursor.at a.text.now), ← c.take.ensures, c.in_ok-number.was, widened c.zero_for-value.result (search rules), c.zero_for-value.ensures)
