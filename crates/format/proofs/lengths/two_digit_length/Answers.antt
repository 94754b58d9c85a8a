-- Each way, by the sign and the size, once the bits are taken away.
use borrow.Author.Tests.{lt-ltb, le-ltb}
use mathlib.Core.Path.{sym, ◌∙◌}
use mir.Syntax.{w32}
use mir.ValLaws.{to_z-of_z}
use Rattle.format.proofs.lengths.Laws.{two-digit-length}
use Rattle.format.proofs.lengths.two_digit_length.Goals as goal
use Rattle.format.proofs.lengths.two_digit_length.Goals.{else-is_negative-via-then-is_negative+else-size-lt10, else-is_negative-via-else-is_negative}

pub returns-then-size-lt10 : goal.returns-then-size-lt10
returns-then-size-lt10 c =
    let e = to_z-of_z w32 c.args.z c.ranges.z in
    let sign = sym (rw e at c.is_negative.ensures) ∙ c.if-is_negative.true in
    let small = lt-ltb _ 10 (rw (rw e at c.size.ensures) at c.if-size-lt10.true) in
    sym (rw (sign, small) at (two-digit-length c.args.z))

pub returns-else-is_negative : goal.returns-else-is_negative
returns-else-is_negative c =
    let e = to_z-of_z w32 c.args.z c.ranges.z in
    elim c.else-is_negative.branch [
      | else-is_negative-via-then-is_negative+else-size-lt10 w ↦
          let sign = sym (rw e at c.is_negative.ensures) ∙ w.if-is_negative.true in
          let large = le-ltb _ 10 (rw (rw e at w.size.ensures) at w.if-size-lt10.false) in
          sym (rw (sign, large) at (two-digit-length c.args.z))
      | else-is_negative-via-else-is_negative w ↦
          let sign = sym (rw e at c.is_negative.ensures) ∙ w.if-is_negative.false in
          sym (rw sign at (two-digit-length c.args.z))
    ]
