-- The part is the one that begins there, and so is its step.
use Rattle.pattern.proofs.parts.Next.{next, starts-here}
use Rattle.reader.proofs.walk.Walks.{step-here}
use Rattle.reader.proofs.walk.compare_part.Goals as goal

pub step_of-requires : goal.step_of-requires
step_of-requires c =
    let s = c in
    starts-here (next s.args.pattern.now s.args.place c.next_part-part.result s.requires.place_in_bounds c.next_part-part.ensures)

pub compare-requires : goal.compare-requires
compare-requires c =
    let s = c in
    let found = c.next_part-part in
    let n = next s.args.pattern.now s.args.place found.result s.requires.place_in_bounds found.ensures in
    record {
      held = c.step_of.ensures.held;
      ended = rw (step-here n c.step_of.ensures) at s.requires.ended;
    }

pub returns : goal.returns
returns c =
    let s = c in
    let found = c.next_part-part in
    let n = next s.args.pattern.now s.args.place found.result s.requires.place_in_bounds found.ensures in
    rw (step-here n c.step_of.ensures) c.compare.ensures
