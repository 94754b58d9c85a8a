use mathlib.Core.Path.{◌≡◌, refl, sym, ◌∙◌}
use Prim.Native.Nat.{◌+◌, ◌-◌, ◌*◌, ◌≤◌, ◌<◌}
use native.Mathlib.Omega.{arith}
use lib.ListN.{length, drop}
use Rattle.stamps.proofs.grammar.Fractions.{turn-lighter, turn-weighs, weighs-none, run_on, run_ends, weighs-end, run_end, weighted-small}
use Rattle.stamps.specs.Fractions.{weighted}
use Rattle.stamps.proofs.grammar.fraction_digits.Goals as goal

pub loop-i-init : goal.loop-i-init
loop-i-init c = (refl, omega arith, omega arith)

pub returns-then-not-is_digit : goal.returns-then-not-is_digit
returns-then-not-is_digit c =
    let L = c.loop-i in
    let s = c.args.text.now in
    let here : L.i < length s = omega arith in
    let no = sym c.is_digit.ensures ∙ c.if-not-is_digit.true in
    (omega (arith, L.invariant.1, weighs-none s L.i here (9 - L.i) no), sym (run_ends s L.i here no) ∙ L.invariant.2)

pub digit_value-requires : goal.digit_value-requires
digit_value-requires c = sym c.is_digit.ensures ∙ c.if-not-is_digit.false

pub overflow_mul-nanos : goal.overflow_mul-nanos
overflow_mul-nanos c =
    let L = c.loop-i in
    let s = c.args.text.now in
    let here : L.i < length s = omega arith in
    let digit = sym c.is_digit.ensures ∙ c.if-not-is_digit.false in
    let weighed : L.nanos + c.digit_value.result * L.weight + weighted (9 - (L.i + 1)) (drop (L.i + 1) s) ≡ weighted 9 s = turn-weighs L.i L.weight L.invariant.0 s L.nanos c.digit_value.result _ here digit c.digit_value.ensures.0 L.invariant.1 in
    record { fits = omega (arith, weighed, weighted-small 9 s) }

pub overflow_add-nanos : goal.overflow_add-nanos
overflow_add-nanos c =
    let L = c.loop-i in
    let s = c.args.text.now in
    let here : L.i < length s = omega arith in
    let digit = sym c.is_digit.ensures ∙ c.if-not-is_digit.false in
    let weighed : L.nanos + c.digit_value.result * L.weight + weighted (9 - (L.i + 1)) (drop (L.i + 1) s) ≡ weighted 9 s = turn-weighs L.i L.weight L.invariant.0 s L.nanos c.digit_value.result _ here digit c.digit_value.ensures.0 L.invariant.1 in
    record { fits = omega (arith, weighed, weighted-small 9 s) }

pub loop-i-preserved : goal.loop-i-preserved
loop-i-preserved c =
    let L = c.loop-i in
    let s = c.args.text.now in
    let here : L.i < length s = omega arith in
    let digit = sym c.is_digit.ensures ∙ c.if-not-is_digit.false in
    let weighed : L.nanos + c.digit_value.result * L.weight + weighted (9 - (L.i + 1)) (drop (L.i + 1) s) ≡ weighted 9 s = turn-weighs L.i L.weight L.invariant.0 s L.nanos c.digit_value.result _ here digit c.digit_value.ensures.0 L.invariant.1 in
    (turn-lighter L.i L.weight L.invariant.0, weighed, sym (run_on s L.i here digit) ∙ L.invariant.2)

pub returns : goal.returns
returns c =
    let L = c.loop-i in
    let s = c.args.text.now in
    let all : length s ≤ L.i = omega arith in
    let same : length s ≡ L.i = omega arith in
    (omega (arith, L.invariant.1, weighs-end s L.i (9 - L.i) all), same ∙ sym (run_end s L.i all) ∙ L.invariant.2)
