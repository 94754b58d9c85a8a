use Prim.Native.Nat.{◌<◌}
use lib.ListN.{length, get_or, length-replicate}
use mathlib.Core.Path.{ap, ◌∙◌}
use native.Mathlib.Omega.{arith}
use Rattle.laws.proofs.Laid.{sets-append, laid_then}
use Rattle.meaning.specs.Mending.{no_change}
use Rattle.mending.proofs.undoing.Laws.{fits-here, fits-later, kept-long, undone-next, undone-long, undone-last}
use Rattle.pattern.proofs.parts.Walks.{rest_all}
use Rattle.mending.proofs.undoing.put_undone.Goals as goal

pub slice_bounds-put_bytes-count : goal.slice_bounds-put_bytes-count
slice_bounds-put_bytes-count c =
    let L = c.loop-change in
    let some : L.change-index < length c.args.changes.now = omega arith in
    let f = fits-here c.args.pattern.now L.at c.args.changes.now L.change-index some L.invariant.0 in
    f.behind

pub slice_bounds-put_bytes-start : goal.slice_bounds-put_bytes-start
slice_bounds-put_bytes-start c =
    let L = c.loop-change in
    let some : L.change-index < length c.args.changes.now = omega arith in
    let f = fits-here c.args.pattern.now L.at c.args.changes.now L.change-index some L.invariant.0 in
    omega (arith, f.behind, f.inside)

pub slice_bounds-put_bytes-end : goal.slice_bounds-put_bytes-end
slice_bounds-put_bytes-end c =
    let L = c.loop-change in
    let some : L.change-index < length c.args.changes.now = omega arith in
    let f = fits-here c.args.pattern.now L.at c.args.changes.now L.change-index some L.invariant.0 in
    omega (arith, f.behind, f.inside)

pub put_bytes-to-requires : goal.put_bytes-to-requires
put_bytes-to-requires c =
    let p = c.args.pattern.now in
    let cs = c.args.changes.now in
    let L = c.loop-change in
    let some : L.change-index < length c.args.changes.now = omega arith in
    let f = fits-here c.args.pattern.now L.at c.args.changes.now L.change-index some L.invariant.0 in
    omega (arith, L.invariant.2, L.invariant.4, undone-long p L.at cs L.change-index some f, kept-long p L.at cs L.change-index some f, c.requires.changes_in_bounds)

pub put_times-to-requires : goal.put_times-to-requires
put_times-to-requires c =
    let p = c.args.pattern.now in
    let cs = c.args.changes.now in
    let L = c.loop-change in
    let some : L.change-index < length c.args.changes.now = omega arith in
    let f = fits-here c.args.pattern.now L.at c.args.changes.now L.change-index some L.invariant.0 in
    let wrote = c.put_bytes-to in
    omega (arith, L.invariant.2, L.invariant.4, undone-long p L.at cs L.change-index some f, kept-long p L.at cs L.change-index some f, c.requires.changes_in_bounds, wrote.ensures.end, wrote.auto.out)

pub overflow_add-at : goal.overflow_add-at
overflow_add-at c =
    let L = c.loop-change in
    let some : L.change-index < length c.args.changes.now = omega arith in
    let f = fits-here c.args.pattern.now L.at c.args.changes.now L.change-index some L.invariant.0 in
    omega (arith, f.adds, f.inside)

pub loop-change-preserved : goal.loop-change-preserved
loop-change-preserved c =
    let p = c.args.pattern.now in
    let cs = c.args.changes.now in
    let L = c.loop-change in
    let some : L.change-index < length c.args.changes.now = omega arith in
    let f = fits-here c.args.pattern.now L.at c.args.changes.now L.change-index some L.invariant.0 in
    let first = c.put_bytes-to in
    let second = c.put_times-to in
    let laid = laid_then first.ensures second.ensures in
    let this = get_or cs L.change-index no_change in (
      fits-later p L.at cs L.change-index some L.invariant.0,
      rw (laid.held, laid.end, ← sets-append, ← undone-next p L.at cs L.change-index some) L.invariant.1,
      omega (arith, L.invariant.2, undone-long p L.at cs L.change-index some f, first.ensures.end, second.ensures.end, kept-long p L.at cs L.change-index some f, length-replicate this.before this.byte),
      f.inside,
      second.auto.out ∙ first.auto.out ∙ L.invariant.4,
    )

pub put_bytes-requires : goal.put_bytes-requires
put_bytes-requires c =
    let p = c.args.pattern.now in
    let L = c.loop-change in
    let last = undone-last p L.at c.args.changes.now L.change-index (omega arith) in
    omega (arith, ap length (rest_all L.at p), ap length last, L.invariant.2, L.invariant.4, c.requires.changes_in_bounds)

pub returns : goal.returns
returns c =
    let p = c.args.pattern.now in
    let L = c.loop-change in
    let laid = rw (rest_all L.at p) at c.put_bytes.ensures in
    let last = undone-last p L.at c.args.changes.now L.change-index (omega arith) in
    record { end = omega (arith, laid.end, ap length last, L.invariant.2); held = laid.held ∙ rw (← last) L.invariant.1 }
