-- `next_part` meets its contract: each of its answers is the part with the first content.
use mathlib.Core.Path.{refl}
use Prim.Native.Nat.{◌+◌}
use native.Mathlib.Omega.{arith}
use lib.ListN.{length-drop}
use Rattle.pattern.proofs.parts.Answers.{part-run, part-quotes, part-quoted, part-open}
use Rattle.pattern.proofs.parts.Scans.{run_more}
use Rattle.pattern.proofs.parts.next_part.Goals as goal

pub returns-then-first-ne39 : goal.returns-then-first-ne39
returns-then-first-ne39 c =
    let a = c.args in
    let p = a.pattern.now in
    part-run p a.at _ c.if-first-ne39.true (omega (arith, run_more p a.at (omega arith) _ refl))

pub returns-then-at-behind : goal.returns-then-at-behind
returns-then-at-behind c =
    let a = c.args in
    let p = a.pattern.now in
    part-quotes p a.at _ c.if-first-ne39.false (omega arith) (omega arith)

pub returns-then-end-pattern : goal.returns-then-end-pattern
returns-then-end-pattern c =
    let a = c.args in
    let p = a.pattern.now in
    part-quoted p a.at _ c.if-first-ne39.false (omega arith) (omega (arith, length-drop (a.at + 1) p)) (omega arith)

pub returns : goal.returns
returns c =
    let a = c.args in
    let p = a.pattern.now in
    part-open p a.at _ c.if-first-ne39.false (omega arith) (omega (arith, length-drop (a.at + 1) p)) (omega arith)
