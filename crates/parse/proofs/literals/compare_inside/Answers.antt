use lib.ListN.{length}
use mathlib.Core.List.{[]}
use mathlib.Core.Logic.{inl, inr}
use mathlib.Core.Path.{◌≡◌, sym, ap, ◌∙◌}
use Prim.Native.Nat.{◌<◌}
use native.Mathlib.Omega.{arith}
use Rattle.parse.proofs.literals.Comparing.{same-on, differs_at, all_same}
use Rattle.pattern.specs.Unescaping.{bytes_left}
use Rattle.std.proofs.lemmas.List.{nil_from_length}
use Rattle.parse.proofs.literals.compare_inside.Goals as goal

pub returns-then-text-i : goal.returns-then-text-i
returns-then-text-i c =
    let text = c.args.text.now in
    let L = c.loop-i in
    let turn = c.in-Some.ensures.steps in
    let there : c.in-Some.i < length text = omega (arith, ap length turn.1, turn.0.1.1, L.invariant.1, c.requires.end_in_bounds) in
    sym (differs_at text c.in-Some.i turn.1 there c.if-text-i.true) ∙ rw (← turn.0.1.1) at L.invariant.0

pub loop-i-preserved : goal.loop-i-preserved
loop-i-preserved c =
    let text = c.args.text.now in
    let L = c.loop-i in
    let turn = c.in-Some.ensures.steps in
    let there : c.in-Some.i < length text = omega (arith, ap length turn.1, turn.0.1.1, L.invariant.1, c.requires.end_in_bounds) in (
      rw (turn.0.1.2, ← turn.0.1.1) (same-on text c.in-Some.i turn.1 there c.if-text-i.false ∙ rw (← turn.0.1.1) at L.invariant.0),
      omega (arith, ap length turn.1, turn.0.1.2, L.invariant.1),
      turn.0.0 ∙ L.invariant.2,
    )

pub returns : goal.returns
returns c =
    let L = c.loop-i in
    let left = bytes_left L.i-iterator.b in
    let none : left ≡ [] =
    elim c.in-None.ensures.steps [
      | inl w ↦ nil_from_length left (omega (arith, w.1.1.0, L.invariant.1, L.invariant.2))
      | inr w ↦ w.1.0
    ] in
    sym (all_same c.args.text.now L.i-iterator.a.start none) ∙ L.invariant.0
