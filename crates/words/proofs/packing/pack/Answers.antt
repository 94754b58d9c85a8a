use mathlib.Core.Path.{◌∙◌}
use native.Mathlib.Omega.{arith}
use Rattle.pattern.proofs.parts.Next.{starts-here}
use Rattle.pattern.proofs.parts.Walks.{found_in}
use Rattle.words.proofs.packing.Turns.{all_left, behind_part, part-few, held-few, words-few, left-next, first_fits, second_fits, all-packed}
use Rattle.words.specs.Packing.{part_words}
use Rattle.words.proofs.packing.pack.Goals as goal

pub loop-part-init : goal.loop-part-init
loop-part-init c =
    let starts = c.parts_of-part-items.ensures.starts in
    rw (c.into_iter-part-iterator.ensures.into_iter_gives, starts.1) (all_left c.args.pair c.args.pattern.now c.args.tail.now c.requires.1, starts.0)

pub part_word-placed-requires : goal.part_word-placed-requires
part_word-placed-requires c =
    let part = found_in c.loop-part.invariant.1 c.in-Some.ensures.steps.2.0 in
    let fine = c.requires.1 in
    let left = c.loop-part.invariant.0 in
    record {
      next = starts-here part;
      length_bound = (part-few fine left part, held-few fine left part, left.most, omega (arith, left.most, left.long, c.requires.0));
    }

pub join-pending-requires : goal.join-pending-requires
join-pending-requires c =
    let part = found_in c.loop-part.invariant.1 c.in-Some.ensures.steps.2.0 in
    let left = c.loop-part.invariant.0 in
    let placed = c.part_word-placed in
    record {
      rest = part_words c.args.pair placed.result.at (behind_part c.args.pattern.now c.loop-part.part-iterator.place c.in-Some.part);
      fits =
          rw placed.ensures.0
          (omega (arith, words-few c.requires.1 left part placed.result.at placed.ensures.1.start, placed.auto.tail, left.long, c.requires.0));
    }

pub loop-part-preserved : goal.loop-part-preserved
loop-part-preserved c =
    let placed = c.part_word-placed in
    let joined = c.join-pending in
    let turn = c.in-Some.ensures.steps in
    let left = left-next c.requires.1 c.loop-part.invariant.0 (found_in c.loop-part.invariant.1 turn.2.0) placed.ensures.0 placed.ensures.1 joined.ensures (joined.auto.tail ∙ placed.auto.tail) in
    (rw turn.2.1 left, turn.1 ∙ c.loop-part.invariant.1)

pub keep-used-requires : goal.keep-used-requires
keep-used-requires c =
    let left = c.loop-part.invariant.0 in
    omega (arith, first_fits c.requires.1 left (rw c.loop-part.invariant.1 at c.in-None.ensures.steps.2), left.long, c.requires.0)

pub keep-requires : goal.keep-requires
keep-requires c =
    let left = c.loop-part.invariant.0 in
    let first = c.keep-used in
    omega (arith, second_fits c.requires.1 left (rw c.loop-part.invariant.1 at c.in-None.ensures.steps.2) first.ensures, first.auto.tail, left.long, c.requires.0)

pub shape_of-tail : goal.shape_of-tail
shape_of-tail c = c.keep.auto.tail ∙ c.keep-used.auto.tail ∙ c.loop-part.invariant.0.long

pub returns : goal.returns
returns c = all-packed c.requires.1 c.loop-part.invariant.0 (rw c.loop-part.invariant.1 at c.in-None.ensures.steps.2) c.keep-used.ensures c.keep.ensures
