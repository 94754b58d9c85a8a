use mathlib.Core.Path.{◌≡◌, sym, ◌∙◌}
use Prim.Native.Nat.{◌-◌}
use native.Mathlib.Omega.{arith}
use Rattle.parse.proofs.literals.Comparing.{times-from, same-on, differs_at, all_same}
use Rattle.parse.proofs.literals.compare_times.Goals as goal

pub loop-i-init : goal.loop-i-init
loop-i-init c =
    let e : c.args.end - (c.args.end - c.args.count) ≡ c.args.count = omega arith in
    (rw e, omega arith)

pub returns-then-text-i : goal.returns-then-text-i
returns-then-text-i c =
    let a = c.args in
    let L = c.loop-i in
    let first = times-from a.byte L.i a.end c.loop-i-test.true in
    sym (differs_at a.text.now L.i first (omega arith) c.if-text-i.true) ∙ L.invariant.0

pub loop-i-preserved : goal.loop-i-preserved
loop-i-preserved c =
    let a = c.args in
    let L = c.loop-i in
    let first = times-from a.byte L.i a.end c.loop-i-test.true in
    (same-on a.text.now L.i first (omega arith) c.if-text-i.false ∙ L.invariant.0, omega arith)

pub returns : goal.returns
returns c =
    let a = c.args in
    let L = c.loop-i in
    let past : a.end - L.i ≡ 0 = omega arith in
    sym (all_same a.text.now L.i (rw past)) ∙ L.invariant.0
