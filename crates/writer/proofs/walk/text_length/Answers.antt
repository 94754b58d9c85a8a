use mathlib.Core.Path.{◌∙◌}
use native.Mathlib.Omega.{arith}
use Rattle.meaning.specs.OpenedBooks.{book_in}
use Rattle.pattern.proofs.parts.Next.{starts-here}
use Rattle.pattern.proofs.parts.Walks.{found_in}
use Rattle.writer.proofs.walk.Texts.{length-chosen, text-done}
use Rattle.writer.proofs.walk.text_length.Goals as goal

pub loop-part-init : goal.loop-part-init
loop-part-init c =
    let starts = c.parts_of-part-items.ensures.starts in
    rw (c.into_iter-part-iterator.ensures.into_iter_gives, starts.1) (omega arith, starts.0)

pub step_of-step-requires : goal.step_of-step-requires
step_of-step-requires c =
    starts-here (found_in c.loop-part.invariant.1 c.in-Some.ensures.steps.2.0)

pub step_length-n-requires-clause-held : goal.step_length-n-requires-clause-held
step_length-n-requires-clause-held c = c.step_of-step.ensures.held

pub step_length-n-requires-clause-step_len_bound : goal.step_length-n-requires-clause-step_len_bound
step_length-n-requires-clause-step_len_bound c =
    let part = found_in c.loop-part.invariant.1 c.in-Some.ensures.steps.2.0 in
    let parted = length-chosen c.args.pair (book_in c.args.book.now) c.args.f c.args.pattern.now c.loop-part.part-iterator.place c.in-Some.part c.step_of-step.result part c.step_of-step.ensures in
    omega (arith, parted, c.loop-part.invariant.0, c.requires.f_len_bound)

pub overflow_add-n : goal.overflow_add-n
overflow_add-n c =
    let part = found_in c.loop-part.invariant.1 c.in-Some.ensures.steps.2.0 in
    let parted = length-chosen c.args.pair (book_in c.args.book.now) c.args.f c.args.pattern.now c.loop-part.part-iterator.place c.in-Some.part c.step_of-step.result part c.step_of-step.ensures in
    omega (arith, parted, c.loop-part.invariant.0, c.step_length-n.ensures, c.requires.f_len_bound)

pub loop-part-preserved : goal.loop-part-preserved
loop-part-preserved c =
    let part = found_in c.loop-part.invariant.1 c.in-Some.ensures.steps.2.0 in
    let parted = length-chosen c.args.pair (book_in c.args.book.now) c.args.f c.args.pattern.now c.loop-part.part-iterator.place c.in-Some.part c.step_of-step.result part c.step_of-step.ensures in
    let walk = c.in-Some.ensures.steps in
    (rw walk.2.1 (omega (arith, parted, c.loop-part.invariant.0, c.step_length-n.ensures)), walk.1 ∙ c.loop-part.invariant.1)

pub returns : goal.returns
returns c =
    let none = text-done c.args.pair (book_in c.args.book.now) c.args.f c.args.pattern.now c.loop-part.part-iterator.place (rw c.loop-part.invariant.1 at c.in-None.ensures.steps.2) in
    omega (arith, rw none at c.loop-part.invariant.0)
