-- A unit that is there: the mask is cut to the fifteen bits.
use mathlib.Core.Path.{◌∙◌}
use mir.Syntax.{w64}
use mir.ValLaws.{to_z-of_z}
use Rattle.sheet.proofs.numbers.Marks.{cut-marked}
use Rattle.sheet.proofs.numbers.is_marked.Goals as goal

pub returns-in-Ok : goal.returns-in-Ok
returns-in-Ok c =
    let bits = to_z-of_z w64 c.args.mask c.ranges.mask in
    c.was_read.ensures ∙ rw bits (cut-marked c.args.mask c.in-Ok.unit c.args.unit (rw bits at c.if-mask-lt0.false) (c.in-Ok.ensures ∙ c.from.ensures))
