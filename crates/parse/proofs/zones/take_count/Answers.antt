-- What the take gives.
use Rattle.parse.proofs.cursor.Moves.{left_by}
use lib.ListN.{drop}
use Rattle.parse.proofs.zones.Zoning.{count-taken}
use Rattle.parse.proofs.zones.take_count.Goals as goal

pub returns-in_err-number : goal.returns-in_err-number
returns-in_err-number c =
    let a = c.args in
    rw (count-taken a.cursor.at a.k (drop a.cursor.at a.text.now), ← c.take.ensures, c.in_err-number.was) (left_by c.from_residual.ensures.1)

pub returns : goal.returns
returns c =
    let a = c.args in
    rw (count-taken a.cursor.at a.k (drop a.cursor.at a.text.now), ← c.take.ensures, c.in_ok-number.was)
