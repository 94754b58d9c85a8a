-- The tests, as the definition has them; a day has fewer seconds than 32 signed bits.
use borrow.Author.Tests.{le-leb}
use Prim.Native.Nat.{◌+◌, ◌*◌}
use mir.Facts.{to_z_pos}
use mir.Syntax.{w32}
use native.Mathlib.Omega.{arith}
use Rattle.laws.proofs.Tests.{chosen}
use Rattle.reader.proofs.offset.Offsets.{behind-fits, behind-is}
use Rattle.reader.proofs.offset.seconds.Goals as goal

pub returns-then-hour-gt23 : goal.returns-then-hour-gt23
returns-then-hour-gt23 c = search chosen

pub returns-then-minute-gt59 : goal.returns-then-minute-gt59
returns-then-minute-gt59 c = search chosen

pub overflow_sub-result : goal.overflow_sub-result
overflow_sub-result c =
    let a = c.args in
    behind-fits (a.hour * 3600 + a.minute * 60) (omega arith)

pub returns-then-ahead : goal.returns-then-ahead
returns-then-ahead c =
    let a = c.args in
    rw (
      le-leb a.hour 23 c.if-hour-gt23.false,
      le-leb a.minute 59 c.if-minute-gt59.false,
      c.if-ahead.true,
      to_z_pos w32 {n = a.hour * 3600 + a.minute * 60} (omega arith),
    )

pub returns-else-ahead : goal.returns-else-ahead
returns-else-ahead c =
    let a = c.args in
    rw (
      le-leb a.hour 23 c.if-hour-gt23.false,
      le-leb a.minute 59 c.if-minute-gt59.false,
      c.if-ahead.false,
      behind-is (a.hour * 3600 + a.minute * 60) (omega arith),
    )
