use mathlib.Core.Path.{◌∙◌}
use native.Mathlib.Omega.{arith}
use Rattle.mending.proofs.listing.Laws.{listed_start, own_room, between-room, place-fits, listed-turn, listed-done}
use Rattle.mending.proofs.walk.Laws.{found, grows}
use Rattle.pattern.proofs.parts.Next.{starts-here}
use Rattle.pattern.proofs.parts.Walks.{found_in}
use Rattle.mending.proofs.listing.list_changes.Goals as goal

pub loop-part-init : goal.loop-part-init
loop-part-init c =
    let starts = c.parts_of-part-items.ensures.starts in
    rw (c.into_iter-part-iterator.ensures.into_iter_gives, starts.1, c.no_changes-changes.ensures) (listed_start c.args.edition c.args.pattern.now, starts.0)

pub own_change-own-requires-clause-next : goal.own_change-own-requires-clause-next
own_change-own-requires-clause-next c = starts-here (found_in c.loop-part.invariant.1 c.in-Some.ensures.steps.2.0)

pub own_change-own-requires-clause-pattern_bound : goal.own_change-own-requires-clause-pattern_bound
own_change-own-requires-clause-pattern_bound c = omega (arith, c.loop-part.invariant.0.left, c.requires.pattern_len_bound, c.requires.pattern_len_bound_2)

pub spaces_behind-spaces-requires : goal.spaces_behind-spaces-requires
spaces_behind-spaces-requires c = starts-here (found_in c.loop-part.invariant.1 c.in-Some.ensures.steps.2.0)

pub list-requires : goal.list-requires
list-requires c =
    let n = found_in c.loop-part.invariant.1 c.in-Some.ensures.steps.2.0 in
    let f = found n c.own_change-own.ensures c.spaces_behind-spaces.ensures in
    own_room f c.requires.pattern_len_bound_2 c.loop-part.invariant.0

pub overflow_sub-at : goal.overflow_sub-at
overflow_sub-at c =
    let n = found_in c.loop-part.invariant.1 c.in-Some.ensures.steps.2.0 in
    let f = found n c.own_change-own.ensures c.spaces_behind-spaces.ensures in
    grows f

pub overflow_add-at : goal.overflow_add-at
overflow_add-at c =
    let n = found_in c.loop-part.invariant.1 c.in-Some.ensures.steps.2.0 in
    let f = found n c.own_change-own.ensures c.spaces_behind-spaces.ensures in
    omega (arith, place-fits f c.requires.pattern_len_bound_2 c.loop-part.invariant.0)

pub overflow_add-at-in-loop-part : goal.overflow_add-at-in-loop-part
overflow_add-at-in-loop-part c =
    let n = found_in c.loop-part.invariant.1 c.in-Some.ensures.steps.2.0 in
    let f = found n c.own_change-own.ensures c.spaces_behind-spaces.ensures in
    omega (arith, place-fits f c.requires.pattern_len_bound_2 c.loop-part.invariant.0)

pub list-requires-in-loop-part : goal.list-requires-in-loop-part
list-requires-in-loop-part c =
    let n = found_in c.loop-part.invariant.1 c.in-Some.ensures.steps.2.0 in
    let f = found n c.own_change-own.ensures c.spaces_behind-spaces.ensures in
    rw c.list.ensures (between-room f c.requires.pattern_len_bound_2 c.loop-part.invariant.0)

pub overflow_add-at-in-loop-part-2 : goal.overflow_add-at-in-loop-part-2
overflow_add-at-in-loop-part-2 c =
    let n = found_in c.loop-part.invariant.1 c.in-Some.ensures.steps.2.0 in
    let f = found n c.own_change-own.ensures c.spaces_behind-spaces.ensures in
    omega (arith, place-fits f c.requires.pattern_len_bound_2 c.loop-part.invariant.0)

pub loop-part-preserved : goal.loop-part-preserved
loop-part-preserved c =
    let n = found_in c.loop-part.invariant.1 c.in-Some.ensures.steps.2.0 in
    let f = found n c.own_change-own.ensures c.spaces_behind-spaces.ensures in
    let turn = listed-turn f c.requires.pattern_len_bound_2 c.loop-part.invariant.0 in
    let walk = c.in-Some.ensures.steps in
    (rw (c.list-in-loop-part.ensures, c.list.ensures, walk.2.1) turn, walk.1 ∙ c.loop-part.invariant.1)

pub returns : goal.returns
returns c = listed-done c.loop-part.invariant.0 (rw c.loop-part.invariant.1 at c.in-None.ensures.steps.2)
