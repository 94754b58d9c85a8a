use mathlib.Core.Path.{sym, ◌∙◌}
use native.Mathlib.Omega.{arith}
use Rattle.parse.proofs.years.Runs.{run_more, run-stops, run-done}
use Rattle.parse.proofs.years.digit_run.Goals as goal

pub returns-then-not-is_digit : goal.returns-then-not-is_digit
returns-then-not-is_digit c =
    let a = c.args in
    let s = a.text.now in
    let L = c.loop-i in
    omega (arith, run-stops s L.i c.loop-i-test.true (sym c.is_digit.ensures ∙ c.if-not-is_digit.true), L.invariant.0)

pub loop-i-preserved : goal.loop-i-preserved
loop-i-preserved c =
    let a = c.args in
    let s = a.text.now in
    let L = c.loop-i in
    omega
    (arith, run_more s L.i c.loop-i-test.true (sym c.is_digit.ensures ∙ c.if-not-is_digit.false), L.invariant.0)

pub returns : goal.returns
returns c =
    let a = c.args in
    let s = a.text.now in
    let L = c.loop-i in
    omega (arith, run-done s L.i c.loop-i-test.false, L.invariant.0)
