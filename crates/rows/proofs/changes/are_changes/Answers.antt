use Prim.Native.Nat.{◌+◌, ◌*◌, ◌≤◌}
use lib.ListN.{length}
use mathlib.Core.Path.{◌≡◌, sym, ◌∙◌}
use native.Mathlib.Omega.{arith}
use Rattle.rows.proofs.changes.Changes.{are-on, are-not, not-four, are_all}
use Rattle.rows.proofs.changes.are_changes.Goals as goal

pub returns-then-row-ne0 : goal.returns-then-row-ne0
returns-then-row-ne0 c = sym (not-four c.args.row.now c.if-row-ne0.true)

pub returns-then-not-is_change : goal.returns-then-not-is_change
returns-then-not-is_change c =
    let row = c.args.row.now in
    let inside : 4 * c.loop-i.i + 4 ≤ length row = omega (arith, c.loop-i-test.true) in
    sym (sym c.loop-i.invariant ∙ are-not row (4 * c.loop-i.i) inside (sym c.is_change.ensures ∙ c.if-not-is_change.true))

pub loop-i-preserved : goal.loop-i-preserved
loop-i-preserved c =
    let row = c.args.row.now in
    let inside : 4 * c.loop-i.i + 4 ≤ length row = omega (arith, c.loop-i-test.true) in
    let next : 4 * (c.loop-i.i + 1) ≡ 4 * c.loop-i.i + 4 = omega arith in
    rw next (are-on row (4 * c.loop-i.i) inside (sym c.is_change.ensures ∙ c.if-not-is_change.false) ∙ c.loop-i.invariant)

pub returns : goal.returns
returns c =
    let row = c.args.row.now in
    sym (sym c.loop-i.invariant ∙ are_all row (4 * c.loop-i.i) (omega (arith, c.if-row-ne0.false, c.loop-i-test.false)))
