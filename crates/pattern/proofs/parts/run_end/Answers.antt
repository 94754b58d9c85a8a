use native.Mathlib.Omega.{arith}
use Rattle.pattern.proofs.parts.Scans.{run_more, run-stop, run-done}
use Rattle.pattern.proofs.parts.run_end.Goals as goal

pub loop-i-preserved : goal.loop-i-preserved
loop-i-preserved c = (omega arith, omega (arith, run_more c.args.pattern.now c.loop-i.i (omega arith) c.args.b c.if-pattern-i.true))

pub returns-else-pattern-i : goal.returns-else-pattern-i
returns-else-pattern-i c = omega (arith, run-stop c.args.pattern.now c.loop-i.i (omega arith) c.args.b c.if-pattern-i.false)

pub returns-after-loop-i : goal.returns-after-loop-i
returns-after-loop-i c = omega (arith, run-done c.args.pattern.now c.loop-i.i c.args.b c.loop-i-test.false)
