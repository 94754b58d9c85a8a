-- What the skip gives.
use Rattle.parse.proofs.cursor.Moves.{left_by}
use lib.ListN.{drop}
use Rattle.parse.proofs.steps.Parts.{part-passed}
use Rattle.parse.proofs.steps.pass.Goals as goal

pub returns-in_err-next : goal.returns-in_err-next
returns-in_err-next c =
    let a = c.args in
    rw (part-passed a.cursor.at a.k (drop a.cursor.at a.text.now), ← c.skip.ensures, c.in_err-next.was) (left_by c.from_residual.ensures.1)

pub returns : goal.returns
returns c =
    let a = c.args in
    rw (part-passed a.cursor.at a.k (drop a.cursor.at a.text.now), ← c.skip.ensures, c.in_ok-next.was)
