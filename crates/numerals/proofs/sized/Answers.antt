use mathlib.Core.Path.{refl, sym, ◌∙◌}
use native.Mathlib.Omega.{arith}
use Rattle.numerals.proofs.Sizing.{largest-fits, sized-none, sized-some, no_digit, digit-more, digit-too-many, digits-done}
use Rattle.numerals.proofs.sized.Goals as goal

pub returns-then-is_empty : goal.returns-then-is_empty
returns-then-is_empty c = sym (sized-none c.args.kind c.args.negative c.args.digits.now (grind arith))

pub loop-d-init : goal.loop-d-init
loop-d-init c =
    let a = c.args in
    (refl, omega arith, omega (arith, c.largest-most.ensures, largest-fits a.kind a.negative))

pub returns-then-not-is_digit : goal.returns-then-not-is_digit
returns-then-not-is_digit c =
    let a = c.args in
    let s = a.digits.now in
    let L = c.loop-d in
    sym
    (sized-some a.kind a.negative s (grind arith) ∙ rw (← c.largest-most.ensures) (sym L.invariant.0 ∙ no_digit c.largest-most.result a.negative L.size s L.d-index c.loop-d-test.true (sym c.is_digit.ensures ∙ c.if-not-is_digit.true)))

pub returns-then-most-size : goal.returns-then-most-size
returns-then-most-size c =
    let a = c.args in
    let s = a.digits.now in
    let L = c.loop-d in
    sym
    (sized-some a.kind a.negative s (grind arith) ∙ rw (← c.largest-most.ensures) (sym L.invariant.0 ∙ digit-too-many c.largest-most.result a.negative L.size s L.d-index c.loop-d-test.true (sym c.is_digit.ensures ∙ c.if-not-is_digit.false) c.if-most-size.true))

pub loop-d-preserved : goal.loop-d-preserved
loop-d-preserved c =
    let a = c.args in
    let s = a.digits.now in
    let L = c.loop-d in
    let more = digit-more c.largest-most.result a.negative L.size s L.d-index c.loop-d-test.true (sym c.is_digit.ensures ∙ c.if-not-is_digit.false) in
    (sym more ∙ L.invariant.0, omega arith, L.invariant.2)

pub returns : goal.returns
returns c =
    let a = c.args in
    let s = a.digits.now in
    let L = c.loop-d in
    sym
    (sized-some a.kind a.negative s (grind arith) ∙ rw (← c.largest-most.ensures) (sym L.invariant.0 ∙ digits-done c.largest-most.result a.negative L.size s L.d-index c.loop-d-test.false L.invariant.1))
