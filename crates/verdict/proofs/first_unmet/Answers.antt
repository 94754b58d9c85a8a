use Prim.Native.Nat.{◌+◌, ◌-◌}
use lib.ListN.{drop}
use mathlib.Core.Path.{◌≡◌, refl, sym, ◌∙◌}
use native.Mathlib.Numerals.{add-one}
use native.Mathlib.Omega.{arith}
use Rattle.meaning.specs.Splitting.{contents, length_of}
use Rattle.meaning.specs.Writing.{steps}
use Rattle.pattern.proofs.parts.Next.{next, starts-here}
use Rattle.pattern.proofs.parts.Walks.{part-long}
use Rattle.pattern.specs.First.{content_of}
use Rattle.trust.proofs.Turns.{unmet-on, unmet-here, unmet-done}
use Rattle.verdict.proofs.first_unmet.Goals as goal

pub loop-place-init : goal.loop-place-init
loop-place-init c = (refl, omega arith)

pub step_of-requires : goal.step_of-requires
step_of-requires c =
    let p = c.args.pattern.now in
    let L = c.loop-place in
    let part = c.next_part-part.result in
    let n = next p L.place part (omega arith) c.next_part-part.ensures in
    starts-here n

pub step_need-need-requires : goal.step_need-need-requires
step_need-need-requires c = c.step_of.ensures.held

pub overflow_add-place : goal.overflow_add-place
overflow_add-place c =
    let p = c.args.pattern.now in
    let L = c.loop-place in
    let part = c.next_part-part.result in
    let n = next p L.place part (omega arith) c.next_part-part.ensures in
    omega (arith, n.fits)

pub returns-then-not-meets : goal.returns-then-not-meets
unfolding steps
returns-then-not-meets c =
    let a = c.args in
    let p = a.pattern.now in
    let L = c.loop-place in
    let part = c.next_part-part.result in
    let n = next p L.place part (omega arith) c.next_part-part.ensures in
    let q = contents (drop (L.place + part.length) p) in
    let chosen = c.step_of.ensures in
    let need = rw chosen.meant at c.step_need-need.ensures in
    let answered = c.if-not-meets.true in
    let fails = rw need at (sym c.meets.ensures ∙ answered) in
    rw need (sym (unmet-here a.edition (a.to - L.place) L.i (content_of p part) q (omega arith) fails) ∙ rw (← n.walk) L.invariant.0)

pub overflow_add-i : goal.overflow_add-i
overflow_add-i c =
    let p = c.args.pattern.now in
    let L = c.loop-place in
    let part = c.next_part-part.result in
    let n = next p L.place part (omega arith) c.next_part-part.ensures in
    omega (arith, L.invariant.1, n.some, n.fits)

pub loop-place-smaller : goal.loop-place-smaller
loop-place-smaller c =
    let p = c.args.pattern.now in
    let L = c.loop-place in
    let part = c.next_part-part.result in
    let n = next p L.place part (omega arith) c.next_part-part.ensures in
    omega (arith, n.some, n.fits)

pub loop-place-preserved : goal.loop-place-preserved
unfolding steps
loop-place-preserved c =
    let a = c.args in
    let p = a.pattern.now in
    let L = c.loop-place in
    let part = c.next_part-part.result in
    let n = next p L.place part (omega arith) c.next_part-part.ensures in
    let q = contents (drop (L.place + part.length) p) in
    let chosen = c.step_of.ensures in
    let need = rw chosen.meant at c.step_need-need.ensures in
    let answered = c.if-not-meets.false in
    let holds = rw need at (sym c.meets.ensures ∙ answered) in
    let left : a.to - (L.place + part.length) ≡ a.to - L.place - length_of (content_of p part) = omega (arith, part-long n) in
    let on = unmet-on a.edition (a.to - L.place) L.i (content_of p part) q (omega arith) holds in
    (rw (add-one, left) (sym on ∙ rw (← n.walk) L.invariant.0), omega (arith, n.some, L.invariant.1))

pub returns : goal.returns
returns c =
    let a = c.args in
    let L = c.loop-place in
    let done : a.to - L.place ≡ 0 = omega (arith, c.loop-place-test.false) in
    rw (← L.invariant.0, done) (sym (unmet-done a.edition L.i (contents (drop L.place a.pattern.now))))
