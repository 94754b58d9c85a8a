-- Two digits, behind a colon or not, where the group is there.
use mathlib.Core.Path.{sym, ◌∙◌}
use Rattle.format.proofs.lengths.Laws.{colon-length}
use Rattle.laws.proofs.Tests.{when_true, when_false}
use Rattle.format.proofs.lengths.group_length.Goals as goal

pub returns-then-colon : goal.returns-then-colon
returns-then-colon c =
    let there = c.is_there.ensures in
    rw (← there, c.if-is_there.true) (sym (colon-length c.args.colon c.args.n c.requires ∙ when_true 3 2 c.if-colon.true))

pub returns-else-colon : goal.returns-else-colon
returns-else-colon c =
    let there = c.is_there.ensures in
    rw (← there, c.if-is_there.true) (sym (colon-length c.args.colon c.args.n c.requires ∙ when_false 3 2 c.if-colon.false))

pub returns : goal.returns
returns c = rw (← c.is_there.ensures, c.if-is_there.false)
