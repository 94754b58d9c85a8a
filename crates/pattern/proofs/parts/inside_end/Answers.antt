use Prim.Native.Nat.{◌+◌}
use native.Mathlib.Omega.{arith}
use Rattle.pattern.proofs.parts.Scans.{inside-byte, inside-close, inside-more, inside-done, past_end}
use Rattle.pattern.proofs.parts.inside_end.Goals as goal
use Rattle.pattern.proofs.parts.inside_end.Goals.{then-i-pattern-via-then-i-pattern, then-i-pattern-via-else-i-pattern+then-pattern-i-ne39}

pub returns-then-i-pattern : goal.returns-then-i-pattern
returns-then-i-pattern c =
    let p = c.args.pattern.now in
    let i = c.loop-i.i in
    let closes = inside-close p i (omega arith) c.if-pattern-i-eq39.true in
    elim c.then-i-pattern.branch [
      | then-i-pattern-via-then-i-pattern w ↦ omega (arith, closes (past_end p (i + 1) (omega arith)))
      | then-i-pattern-via-else-i-pattern+then-pattern-i-ne39 w ↦ omega (arith, closes w.if-pattern-i-ne39.true)
    ]

pub loop-i-preserved-then-pattern-i-eq39 : goal.loop-i-preserved-then-pattern-i-eq39
loop-i-preserved-then-pattern-i-eq39 c =
    let l = c in
    let p = l.args.pattern.now in
    let i = l.loop-i.i in
    let second = c.if-pattern-i-ne39.false in
    omega (arith, inside-more p i (omega arith) c.if-pattern-i-eq39.true second)

pub loop-i-preserved : goal.loop-i-preserved
loop-i-preserved c =
    let l = c in
    omega (arith, inside-byte l.args.pattern.now l.loop-i.i (omega arith) c.if-pattern-i-eq39.false)

pub returns : goal.returns
returns c =
    let l = c in
    omega (arith, inside-done l.args.pattern.now l.loop-i.i c.loop-i-test.false)
