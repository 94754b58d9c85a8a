use native.Mathlib.Omega.{arith}
use Rattle.reader.proofs.checks.Sizes.{largest-turn, largest-end}
use Rattle.reader.proofs.checks.largest.Goals as goal

pub loop-b-preserved : goal.loop-b-preserved
loop-b-preserved c = omega (arith, c.loop-b.invariant, largest-turn c.args.text.now c.loop-b.b-index c.loop-b-test.true, c.max-most.ensures)

pub returns : goal.returns
returns c = omega (arith, c.loop-b.invariant, largest-end c.args.text.now c.loop-b.b-index c.loop-b-test.false)
