use native.Mathlib.Omega.{arith}
use lib.Dec.{ltb}
use borrow.Author.Tests.{ltb-true, ltb-false}
use Rattle.laws.proofs.Tests.{by-test}
use mathlib.Core.Path.{sym, ◌∙◌}
use Rattle.numerals.proofs.extents.Reaches.{reach-more, reach-stops, reach-done}
use Rattle.numerals.proofs.extents.extent.Goals as goal

pub returns-then-not-is_digit_at : goal.returns-then-not-is_digit_at
returns-then-not-is_digit_at c =
    let a = c.args in
    let L = c.loop-k in
    omega (arith, reach-stops a.text.now a.at L.k a.most c.loop-k-test.true (sym c.is_digit_at.ensures ∙ c.if-not-is_digit_at.true), L.invariant)

pub loop-k-preserved : goal.loop-k-preserved
loop-k-preserved c =
    let a = c.args in
    let L = c.loop-k in
    omega (arith, reach-more a.text.now a.at L.k a.most c.loop-k-test.true (sym c.is_digit_at.ensures ∙ c.if-not-is_digit_at.false), L.invariant)

pub returns : goal.returns
returns c =
    let a = c.args in
    let L = c.loop-k in
    let end = reach-done a.text.now a.at L.k a.most c.loop-k-test.false in
    by-test (ltb a.least a.most)
    (λ e. omega (arith, ltb-true a.least a.most e, end, L.invariant, L.auto.k-end, c.max.ensures))
    (λ e.
    let none = ltb-false a.least a.most e in
    omega (arith, none, reach-done a.text.now a.at a.least a.most none, c.max.ensures))
