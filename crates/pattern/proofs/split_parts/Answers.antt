use native.Mathlib.Omega.{arith}
use mathlib.Core.Path.{◌∙◌}
use Rattle.pattern.proofs.parts.Walks.{found_in}
use Rattle.pattern.proofs.Splits.{filled-start, filled-turn, filled-split}
use Rattle.pattern.proofs.split_parts.Goals as goal

pub loop-part-init : goal.loop-part-init
loop-part-init c =
    let starts = c.parts_of-part-items.ensures.starts in
    rw (c.into_iter-part-iterator.ensures.into_iter_gives, starts.1) (starts.0, filled-start c.args.pattern.now c.no_part-empty.result c.no_part-empty.ensures)

pub offset_bounds-parts-used : goal.offset_bounds-parts-used
offset_bounds-parts-used c =
    let n = found_in c.loop-part.invariant.0 c.in-Some.ensures.steps.2.0 in
    omega (arith, n.fits, n.some, c.loop-part.invariant.1.few, c.requires)

pub bounds-parts-used : goal.bounds-parts-used
bounds-parts-used c =
    let n = found_in c.loop-part.invariant.0 c.in-Some.ensures.steps.2.0 in
    omega (arith, n.fits, n.some, c.loop-part.invariant.1.few, c.requires)

pub overflow_add-used : goal.overflow_add-used
overflow_add-used c =
    let n = found_in c.loop-part.invariant.0 c.in-Some.ensures.steps.2.0 in
    omega (arith, n.fits, n.some, c.loop-part.invariant.1.few, c.requires)

pub loop-part-preserved : goal.loop-part-preserved
loop-part-preserved c =
    let L = c.loop-part in
    let turn = c.in-Some.ensures.steps in
    let n = found_in c.loop-part.invariant.0 c.in-Some.ensures.steps.2.0 in
    (turn.1 ∙ L.invariant.0, rw turn.2.1 (filled-turn (omega arith) (omega (arith, n.fits, n.some)) L.invariant.1 n))

pub returns : goal.returns
returns c =
    let L = c.loop-part in
    let end = rw L.invariant.0 at c.in-None.ensures.steps.2 in
    filled-split (omega arith) end L.invariant.1
