-- Z for no offset where the rule has it, else the signed offset, once the bits are taken away.
use native.Mathlib.Omega.{arith}
use Rattle.meaning.specs.Writing.{offset_text}
use mir.Syntax.{w32}
use mir.ValLaws.{to_z-of_z}
use Rattle.format.proofs.zones.format_zone.Goals as goal

pub put_byte-requires : goal.put_byte-requires
put_byte-requires c =
    let e = to_z-of_z w32 c.args.z c.ranges.z in
    let n = rw e at c.size-n.ensures in
    let test = rw n at c.is_z.ensures in
    let taken = c.if-is_z.true in
    omega (arith, rw (← test, taken) at c.requires)

pub returns-then-is_z : goal.returns-then-is_z
returns-then-is_z c =
    let e = to_z-of_z w32 c.args.z c.ranges.z in
    let n = rw e at c.size-n.ensures in
    let test = rw n at c.is_z.ensures in
    let taken = c.if-is_z.true in
    rw (← test, taken) c.put_byte.ensures

pub put_zone-requires : goal.put_zone-requires
unfolding offset_text
put_zone-requires c =
    let e = to_z-of_z w32 c.args.z c.ranges.z in
    let n = rw e at c.size-n.ensures in
    let test = rw n at c.is_z.ensures in
    rw n (rw (← test, c.if-is_z.false) at c.requires)

pub returns : goal.returns
unfolding offset_text
returns c =
    let e = to_z-of_z w32 c.args.z c.ranges.z in
    let n = rw e at c.size-n.ensures in
    let test = rw n at c.is_z.ensures in
    let sign = rw e at c.is_minus.ensures in
    rw (← test, c.if-is_z.false, ← sign, ← n) c.put_zone.ensures
