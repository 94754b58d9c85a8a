-- A Z, or a sign, two digits of hours and the groups, once the bits are taken away.
use mir.Syntax.{w32}
use mir.ValLaws.{to_z-of_z}
use native.Mathlib.Omega.{arith}
use Prim.Native.Nat.{◌/◌, ◌%◌}
use Rattle.format.proofs.lengths.Laws.{group-most, offset-length}
use Rattle.format.proofs.lengths.zone_length.Goals as goal

pub returns-then-is_z : goal.returns-then-is_z
returns-then-is_z c =
    let n = rw (to_z-of_z w32 c.args.z c.ranges.z) at c.size-n.ensures in
    rw (← (rw n at c.is_z.ensures), c.if-is_z.true)

pub overflow_add-result : goal.overflow_add-result
overflow_add-result c =
    let n = c.size-n.result in
    omega (arith, c.group_length-m.ensures, group-most c.args.zone.colon c.args.zone.minutes (n % 3600 / 60) (omega arith))

pub overflow_add-result-2 : goal.overflow_add-result-2
overflow_add-result-2 c =
    let n = c.size-n.result in
    omega (
      arith,
      c.group_length-m.ensures,
      c.group_length.ensures,
      group-most c.args.zone.colon c.args.zone.minutes (n % 3600 / 60) (omega arith),
      group-most c.args.zone.colon c.args.zone.seconds (n % 60) (omega arith),
    )

pub returns : goal.returns
returns c =
    let n = rw (to_z-of_z w32 c.args.z c.ranges.z) at c.size-n.ensures in
    let long = offset-length c.args.zone.colon c.args.zone.minutes c.args.zone.seconds c.args.z c.requires in
    rw (← (rw n at c.is_z.ensures), c.if-is_z.false)
    (omega (arith, rw (← n) at long, c.group_length-m.ensures, c.group_length.ensures))
