use Prim.Native.Nat.{◌<◌}
use lib.ListN.{length, get_or}
use mathlib.Core.Path.{sym, ◌∙◌}
use native.Mathlib.Omega.{arith}
use Rattle.meaning.specs.Mending.{no_change}
use Rattle.mending.proofs.undoing.Laws.{fits-is, fits_not, fits_on, fits_all}
use Rattle.mending.proofs.undoing.all_fit.Goals as goal

pub returns-then-not-fits : goal.returns-then-not-fits
returns-then-not-fits c =
    let a = c.args in
    let L = c.loop-change in
    let some : L.change-index < length a.changes.now = omega arith in
    sym (sym L.invariant.0 ∙ fits_not a.pattern.now L.at a.changes.now L.change-index some (sym c.fits.ensures ∙ c.if-not-fits.true))

pub overflow_add-at : goal.overflow_add-at
overflow_add-at c =
    let f = fits-is c.args.pattern.now c.loop-change.at (get_or c.args.changes.now c.loop-change.change-index no_change) (sym c.fits.ensures ∙ c.if-not-fits.false) in
    omega (arith, f.inside)

pub loop-change-preserved : goal.loop-change-preserved
loop-change-preserved c =
    let a = c.args in
    let L = c.loop-change in
    let p = a.pattern.now in
    let some : L.change-index < length a.changes.now = omega arith in
    let fit = sym c.fits.ensures ∙ c.if-not-fits.false in
    let f = fits-is p L.at (get_or a.changes.now L.change-index no_change) fit in
    (fits_on p L.at a.changes.now L.change-index some fit ∙ L.invariant.0, f.inside)

pub returns : goal.returns
returns c =
    let a = c.args in
    let L = c.loop-change in
    sym (sym L.invariant.0 ∙ fits_all a.pattern.now L.at a.changes.now L.change-index (omega arith))
