use native.Mathlib.Omega.{arith}
use Rattle.pattern.proofs.parts.Scans.{escaped-stop, escaped-single, escaped-more, escaped-done}
use Rattle.pattern.proofs.parts.escaped_end.Goals as goal

pub loop-behind-preserved : goal.loop-behind-preserved
loop-behind-preserved c =
    let i = c.loop-behind.behind in
    (omega arith, omega (arith, escaped-more c.args.pattern.now i (omega arith) c.if-pattern-behind-eq39.true c.if-pattern-behind-eq39-2.true))

pub returns-else-pattern-behind-eq39-2 : goal.returns-else-pattern-behind-eq39-2
returns-else-pattern-behind-eq39-2 c =
    let i = c.loop-behind.behind in
    omega (arith, escaped-single c.args.pattern.now i (omega arith) c.if-pattern-behind-eq39.true c.if-pattern-behind-eq39-2.false)

pub returns-else-pattern-behind-eq39 : goal.returns-else-pattern-behind-eq39
returns-else-pattern-behind-eq39 c =
    let i = c.loop-behind.behind in
    omega (arith, escaped-stop c.args.pattern.now i (omega arith) c.if-pattern-behind-eq39.false)

pub returns-after-loop-behind : goal.returns-after-loop-behind
returns-after-loop-behind c = omega (arith, escaped-done c.args.pattern.now c.loop-behind.behind c.loop-behind-test.false)
