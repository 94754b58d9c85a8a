use Prim.Native.Nat.{◌-◌}
use mathlib.Core.Path.{◌≡◌, refl, ap, ◌∙◌}
use native.Mathlib.Omega.{arith}
use Rattle.laws.proofs.Laid.{sets-append}
use Rattle.mending.proofs.walk.Laws.{all_left, none_left, found, grows, slice-bytes, slice-long, text-long, bytes_next, length-next}
use Rattle.meaning.specs.declared.Part.{Part}
use Rattle.pattern.proofs.parts.Next.{starts-here}
use Rattle.pattern.proofs.parts.Walks.{found_in}
use Rattle.mending.proofs.walk.put_mended.Goals as goal

pub loop-part-init : goal.loop-part-init
loop-part-init c =
    let e = all_left c.args.edition c.args.pattern.now in
    let starts = c.parts_of-part-items.ensures.starts in
    rw (c.into_iter-part-iterator.ensures.into_iter_gives, starts.1) (rw e, rw e (omega arith), refl, starts.0)

pub own_change-own-requires : goal.own_change-own-requires
own_change-own-requires c =
    let n = found_in c.loop-part.invariant.3 c.in-Some.ensures.steps.2.0 in
    record { next = starts-here n; pattern_bound = omega (arith, c.requires.pattern_len_bound) }

pub spaces_behind-spaces-requires : goal.spaces_behind-spaces-requires
spaces_behind-spaces-requires c =
    starts-here (found_in c.loop-part.invariant.3 c.in-Some.ensures.steps.2.0)

pub overflow_add-part : goal.overflow_add-part
overflow_add-part c =
    let n = found_in c.loop-part.invariant.3 c.in-Some.ensures.steps.2.0 in
    omega (arith, n.fits, ap (λ (q : Part). q.start) n.itself)

pub slice_bounds-put_part-start : goal.slice_bounds-put_part-start
slice_bounds-put_part-start c =
    let n = found_in c.loop-part.invariant.3 c.in-Some.ensures.steps.2.0 in
    omega (arith, n.fits, ap (λ (q : Part). q.start) n.itself)

pub slice_bounds-put_part-end : goal.slice_bounds-put_part-end
slice_bounds-put_part-end c =
    let n = found_in c.loop-part.invariant.3 c.in-Some.ensures.steps.2.0 in
    omega (arith, n.fits, ap (λ (q : Part). q.start) n.itself)

pub put_part-at-requires : goal.put_part-at-requires
put_part-at-requires c =
    let n = found_in c.loop-part.invariant.3 c.in-Some.ensures.steps.2.0 in
    let f = found n c.own_change-own.ensures c.spaces_behind-spaces.ensures in
    let L = c.loop-part in
    record {
      before_le_after = grows f;
      spaces_in_bounds = omega (arith, slice-long (starts-here n), L.invariant.1, L.invariant.2, length-next f, c.requires.pattern_in_bounds);
    }

pub loop-part-preserved : goal.loop-part-preserved
loop-part-preserved c =
    let n = found_in c.loop-part.invariant.3 c.in-Some.ensures.steps.2.0 in
    let f = found n c.own_change-own.ensures c.spaces_behind-spaces.ensures in
    let L = c.loop-part in
    let wrote = c.put_part-at in
    let own = c.own_change-own.result in
    let spaces = c.spaces_behind-spaces.result in
    let walk = c.in-Some.ensures.steps in
    let start : c.in-Some.part.start ≡ L.part-iterator.place = ap (λ (q : Part). q.start) n.itself in
    let laid = rw (start, slice-bytes n) at wrote.ensures in (
      rw (laid.held, laid.end, ← sets-append, walk.2.1, ← bytes_next f) L.invariant.0,
      rw walk.2.1 (omega (arith, laid.end, text-long n own.byte (own.after - own.before) spaces, length-next f, L.invariant.1)),
      wrote.auto.out ∙ L.invariant.2,
      walk.1 ∙ L.invariant.3,
    )

pub shape_of-out : goal.shape_of-out
shape_of-out c = c.loop-part.invariant.2

pub returns : goal.returns
returns c =
    let a = c.args in
    let L = c.loop-part in
    let none = none_left a.edition a.pattern.now L.part-iterator.place (rw L.invariant.3 at c.in-None.ensures.steps.2) in
    record { end = omega (arith, rw none at L.invariant.1); held = rw none at L.invariant.0 }
