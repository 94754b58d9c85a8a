-- The digits, and one more for a minus, once the bits are taken away.
use mathlib.Core.Path.{sym, ◌∙◌}
use mir.Syntax.{w32}
use mir.ValLaws.{to_z-of_z}
use native.Mathlib.Omega.{arith}
use Rattle.format.proofs.lengths.Laws.{signed-length}
use Rattle.format.proofs.lengths.year_length.Goals as goal

pub overflow_add-result : goal.overflow_add-result
overflow_add-result c =
    let e = to_z-of_z w32 c.args.z c.ranges.z in
    let n = rw (rw e at c.size.ensures) at c.padded_length-n.ensures in
    let sign = sym (rw e at c.is_negative.ensures) ∙ c.if-is_negative.true in
    omega (arith, n, rw sign at (signed-length c.args.k c.args.z), c.requires)

pub returns-then-is_negative : goal.returns-then-is_negative
returns-then-is_negative c =
    let e = to_z-of_z w32 c.args.z c.ranges.z in
    let n = rw (rw e at c.size.ensures) at c.padded_length-n.ensures in
    let sign = sym (rw e at c.is_negative.ensures) ∙ c.if-is_negative.true in
    omega (arith, n, rw sign at (signed-length c.args.k c.args.z))

pub returns-else-is_negative : goal.returns-else-is_negative
returns-else-is_negative c =
    let e = to_z-of_z w32 c.args.z c.ranges.z in
    let n = rw (rw e at c.size.ensures) at c.padded_length-n.ensures in
    let sign = sym (rw e at c.is_negative.ensures) ∙ c.if-is_negative.false in
    omega (arith, n, rw sign at (signed-length c.args.k c.args.z))
