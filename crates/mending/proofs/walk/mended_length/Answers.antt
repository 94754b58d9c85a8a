use lib.ListN.{length}
use mathlib.Core.Path.{ap, ◌∙◌}
use native.Mathlib.Omega.{arith}
use Rattle.mending.proofs.walk.Laws.{all_left, none_left, found, grows, length-next}
use Rattle.pattern.proofs.parts.Next.{starts-here}
use Rattle.pattern.proofs.parts.Walks.{found_in}
use Rattle.trust.proofs.MendedSizes.{mended-short}
use Rattle.mending.proofs.walk.mended_length.Goals as goal

pub loop-part-init : goal.loop-part-init
loop-part-init c =
    let starts = c.parts_of-part-items.ensures.starts in
    rw (c.into_iter-part-iterator.ensures.into_iter_gives, starts.1) (omega (arith, ap length (all_left c.args.edition c.args.pattern.now)), starts.0)

pub own_change-own-requires : goal.own_change-own-requires
own_change-own-requires c =
    let n = found_in c.loop-part.invariant.1 c.in-Some.ensures.steps.2.0 in
    record { next = starts-here n; pattern_bound = omega (arith, c.requires) }

pub spaces_behind-spaces-requires : goal.spaces_behind-spaces-requires
spaces_behind-spaces-requires c =
    starts-here (found_in c.loop-part.invariant.1 c.in-Some.ensures.steps.2.0)

pub overflow_sub-n : goal.overflow_sub-n
overflow_sub-n c =
    let n = found_in c.loop-part.invariant.1 c.in-Some.ensures.steps.2.0 in
    grows (found n c.own_change-own.ensures c.spaces_behind-spaces.ensures)

pub overflow_add-n : goal.overflow_add-n
overflow_add-n c =
    let n = found_in c.loop-part.invariant.1 c.in-Some.ensures.steps.2.0 in
    let f = found n c.own_change-own.ensures c.spaces_behind-spaces.ensures in
    omega (arith, c.loop-part.invariant.0, length-next f, mended-short c.args.edition c.args.pattern.now, c.requires)

pub overflow_add-n-in-loop-part : goal.overflow_add-n-in-loop-part
overflow_add-n-in-loop-part c =
    let n = found_in c.loop-part.invariant.1 c.in-Some.ensures.steps.2.0 in
    let f = found n c.own_change-own.ensures c.spaces_behind-spaces.ensures in
    omega (arith, c.loop-part.invariant.0, length-next f, mended-short c.args.edition c.args.pattern.now, c.requires)

pub overflow_add-n-in-loop-part-2 : goal.overflow_add-n-in-loop-part-2
overflow_add-n-in-loop-part-2 c =
    let n = found_in c.loop-part.invariant.1 c.in-Some.ensures.steps.2.0 in
    let f = found n c.own_change-own.ensures c.spaces_behind-spaces.ensures in
    omega (arith, c.loop-part.invariant.0, length-next f, mended-short c.args.edition c.args.pattern.now, c.requires)

pub loop-part-preserved : goal.loop-part-preserved
loop-part-preserved c =
    let n = found_in c.loop-part.invariant.1 c.in-Some.ensures.steps.2.0 in
    let f = found n c.own_change-own.ensures c.spaces_behind-spaces.ensures in
    let walk = c.in-Some.ensures.steps in
    (rw walk.2.1 (omega (arith, c.loop-part.invariant.0, length-next f)), walk.1 ∙ c.loop-part.invariant.1)

pub returns : goal.returns
returns c =
    let a = c.args in
    omega (arith, c.loop-part.invariant.0, ap length (none_left a.edition a.pattern.now c.loop-part.part-iterator.place (rw c.loop-part.invariant.1 at c.in-None.ensures.steps.2)))
