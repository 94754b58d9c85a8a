use mathlib.Core.Path.{refl, ◌∙◌}
use native.Mathlib.Omega.{arith}
use Rattle.laws.proofs.Laid.{sets-append}
use Rattle.meaning.specs.OpenedBooks.{book_in}
use Rattle.pattern.proofs.parts.Next.{starts-here}
use Rattle.pattern.proofs.parts.Walks.{found_in}
use Rattle.writer.proofs.walk.Texts.{text-chosen, length-chosen, text-done}
use Rattle.writer.proofs.walk.format_parts.Goals as goal

pub loop-part-init : goal.loop-part-init
loop-part-init c =
    let starts = c.parts_of-part-items.ensures.starts in
    rw (c.into_iter-part-iterator.ensures.into_iter_gives, starts.1) (refl, omega arith, starts.0)

pub step_of-step-requires : goal.step_of-step-requires
step_of-step-requires c =
    starts-here (found_in c.loop-part.invariant.2 c.in-Some.ensures.steps.2.0)

pub format_step-at-requires-clause-held : goal.format_step-at-requires-clause-held
format_step-at-requires-clause-held c = c.step_of-step.ensures.held

pub format_step-at-requires-clause-step_in_bounds : goal.format_step-at-requires-clause-step_in_bounds
format_step-at-requires-clause-step_in_bounds c =
    let part = found_in c.loop-part.invariant.2 c.in-Some.ensures.steps.2.0 in
    let parted = length-chosen c.args.pair (book_in c.args.book.now) c.args.f c.args.pattern.now c.loop-part.part-iterator.place c.in-Some.part c.step_of-step.result part c.step_of-step.ensures in
    omega (arith, parted, c.loop-part.invariant.1, c.loop-part.auto.out, c.requires.f_in_bounds)

pub loop-part-preserved : goal.loop-part-preserved
loop-part-preserved c =
    let part = found_in c.loop-part.invariant.2 c.in-Some.ensures.steps.2.0 in
    let parted = length-chosen c.args.pair (book_in c.args.book.now) c.args.f c.args.pattern.now c.loop-part.part-iterator.place c.in-Some.part c.step_of-step.result part c.step_of-step.ensures in
    let chosen = text-chosen c.args.pair (book_in c.args.book.now) c.args.f c.args.pattern.now c.loop-part.part-iterator.place c.in-Some.part c.step_of-step.result part c.step_of-step.ensures in
    let wrote = c.format_step-at.ensures in
    let walk = c.in-Some.ensures.steps in (
      rw (wrote.held, wrote.end, ← sets-append, walk.2.1, ← chosen) c.loop-part.invariant.0,
      rw walk.2.1 (omega (arith, parted, c.loop-part.invariant.1, wrote.end)),
      walk.1 ∙ c.loop-part.invariant.2,
    )

pub returns : goal.returns
returns c =
    let none = text-done c.args.pair (book_in c.args.book.now) c.args.f c.args.pattern.now c.loop-part.part-iterator.place (rw c.loop-part.invariant.2 at c.in-None.ensures.steps.2) in
    record { end = omega (arith, rw none at c.loop-part.invariant.1); held = rw none at c.loop-part.invariant.0 }
