-- Both tests, once the bits are taken away.
use mir.Syntax.{w32}
use mir.ValLaws.{to_z-of_z}
use Rattle.meaning.specs.Writing.{is_minus}
use Rattle.format.proofs.zones.is_minus.Goals as goal

pub returns-then-not-is_nothing : goal.returns-then-not-is_nothing
unfolding is_minus
returns-then-not-is_nothing c =
    let e = to_z-of_z w32 c.args.z c.ranges.z in
    let n = rw e at c.size.ensures in
    rw (← n, ← c.is_nothing.ensures, c.if-not-is_nothing.true) (rw e at c.is_negative.ensures)

pub returns-else-not-is_nothing : goal.returns-else-not-is_nothing
unfolding is_minus
returns-else-not-is_nothing c =
    let n = rw (to_z-of_z w32 c.args.z c.ranges.z) at c.size.ensures in
    rw (← n, ← c.is_nothing.ensures, c.if-not-is_nothing.false)
