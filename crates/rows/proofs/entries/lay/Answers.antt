use native.Mathlib.Omega.{arith}
use Rattle.rows.proofs.entries.Stored.{over}
use Rattle.rows.proofs.entries.lay.Goals as goal

pub returns : goal.returns
returns c =
    let a = c.args in
    rw c.copy_from_slice.ensures.after (over a.at _ a.row.now a.numbers.now (omega arith) c.requires)
