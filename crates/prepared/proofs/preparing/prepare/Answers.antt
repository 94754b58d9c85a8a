-- By the checks of the pattern.
use mathlib.Core.Path.{◌∙◌, sym}
use native.Mathlib.Omega.{arith}
use Rattle.prepared.specs.PreparedRows.{prepared_row}
use Rattle.prepared.proofs.preparing.prepare.Goals as goal

pub accept-requires : goal.accept-requires
accept-requires c = (omega arith, sym c.pattern_check.ensures ∙ c.in-Ok.is)

pub returns-in-Ok : goal.returns-in-Ok
unfolding prepared_row
returns-in-Ok c =
    let fine = sym c.in-Ok.is ∙ c.pattern_check.ensures in
    (fine, c.accept.ensures ∙ rw (← fine))

pub returns-in-Err : goal.returns-in-Err
unfolding prepared_row
returns-in-Err c =
    let refused = sym c.in-Err.is ∙ c.pattern_check.ensures in
    (refused, c.refuse.ensures ∙ rw (← refused))
