-- The next part says it, with the one behind it.
use native.Mathlib.Omega.{arith}
use Rattle.meaning.specs.declared.Pair.TheVariants.{Full}
use Rattle.pattern.proofs.parts.Next.{next, starts-here}
use Rattle.pattern.proofs.parts.Walks.{steps_next, steps-done}
use Rattle.trust.specs.Ahead.{digit_second}
use Rattle.verdict.proofs.lookahead.digit_second.Goals as goal

pub returns-then-pattern-place : goal.returns-then-pattern-place
unfolding digit_second
returns-then-pattern-place c = rw (steps-done Full c.args.pattern.now c.args.place c.if-pattern-place.true)

pub overflow_add-place : goal.overflow_add-place
overflow_add-place c =
    let a = c.args in
    let part = c.next_part-part in
    let n = next a.pattern.now a.place part.result (omega arith) part.ensures in
    omega (arith, n.fits)

pub step_of-requires : goal.step_of-requires
step_of-requires c =
    let a = c.args in
    let part = c.next_part-part in
    let n = next a.pattern.now a.place part.result (omega arith) part.ensures in
    starts-here n

pub returns : goal.returns
unfolding digit_second
returns c =
    let a = c.args in
    let part = c.next_part-part in
    let n = next a.pattern.now a.place part.result (omega arith) part.ensures in
    rw (steps_next Full a.pattern.now a.place part.result n, ← c.digit_first-behind.ensures, ← c.step_of.ensures.meant)
    c.step_second.ensures
