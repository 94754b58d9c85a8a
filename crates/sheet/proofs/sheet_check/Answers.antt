-- The check in the first edition.
use mir.Syntax.{w32}
use mir.ValLaws.{to_z-of_z}
use Rattle.sheet.proofs.sheet_check.Goals as goal

pub returns : goal.returns
returns c =
    let s = c in
    rw (to_z-of_z w32 s.args.year s.ranges.year) at c.check.ensures
