-- The bit as a number.
use mir.Syntax.{w64}
use mir.ValLaws.{to_z-of_z}
use Rattle.sheet.proofs.sheet_was_read.Goals as goal

pub returns-then-is_marked : goal.returns-then-is_marked
returns-then-is_marked c =
    let s = c in
    rw (← rw (to_z-of_z w64 s.args.mask s.ranges.mask) at c.is_marked.ensures, c.if-is_marked.true)

pub returns-else-is_marked : goal.returns-else-is_marked
returns-else-is_marked c =
    let s = c in
    rw (← rw (to_z-of_z w64 s.args.mask s.ranges.mask) at c.is_marked.ensures, c.if-is_marked.false)
