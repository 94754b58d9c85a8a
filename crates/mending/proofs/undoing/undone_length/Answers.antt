use Prim.Native.Nat.{◌<◌}
use lib.ListN.{length, length-drop}
use mathlib.Core.Path.{ap}
use native.Mathlib.Omega.{arith}
use Rattle.mending.proofs.undoing.Laws.{fits-here, fits-later, undone-long, undone-last}
use Rattle.mending.proofs.undoing.undone_length.Goals as goal

pub overflow_sub-n : goal.overflow_sub-n
overflow_sub-n c =
    let L = c.loop-change in
    let some : L.change-index < length c.args.changes.now = omega arith in
    let f = fits-here c.args.pattern.now L.at c.args.changes.now L.change-index some L.invariant.0 in
    f.behind

pub overflow_add-n : goal.overflow_add-n
overflow_add-n c =
    let L = c.loop-change in
    let some : L.change-index < length c.args.changes.now = omega arith in
    let f = fits-here c.args.pattern.now L.at c.args.changes.now L.change-index some L.invariant.0 in
    omega (arith, f.behind, f.adds, f.inside)

pub overflow_add-n-in-loop-change : goal.overflow_add-n-in-loop-change
overflow_add-n-in-loop-change c =
    let L = c.loop-change in
    let some : L.change-index < length c.args.changes.now = omega arith in
    let f = fits-here c.args.pattern.now L.at c.args.changes.now L.change-index some L.invariant.0 in
    omega (arith, f.behind, f.adds, f.inside, L.invariant.2)

pub overflow_add-at : goal.overflow_add-at
overflow_add-at c =
    let L = c.loop-change in
    let some : L.change-index < length c.args.changes.now = omega arith in
    let f = fits-here c.args.pattern.now L.at c.args.changes.now L.change-index some L.invariant.0 in
    omega (arith, f.inside)

pub loop-change-preserved : goal.loop-change-preserved
loop-change-preserved c =
    let p = c.args.pattern.now in
    let cs = c.args.changes.now in
    let L = c.loop-change in
    let some : L.change-index < length c.args.changes.now = omega arith in
    let f = fits-here c.args.pattern.now L.at c.args.changes.now L.change-index some L.invariant.0 in (
      fits-later p L.at cs L.change-index some L.invariant.0,
      omega (arith, L.invariant.1, undone-long p L.at cs L.change-index some f),
      omega (arith, f.behind, f.adds, L.invariant.2),
      f.inside,
    )

pub returns : goal.returns
returns c =
    let L = c.loop-change in
    let p = c.args.pattern.now in
    let last = undone-last p L.at c.args.changes.now L.change-index (omega arith) in
    omega (arith, L.invariant.1, ap length last, length-drop L.at p)
