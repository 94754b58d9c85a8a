use mathlib.Core.Path.{ap}
use native.Mathlib.Omega.{arith}
use lib.ListN.{length}
use Rattle.pattern.proofs.parts.Inside.{unescaped-turn, unescaped-done}
use Rattle.pattern.proofs.quoted.UnescapedIterator.next.Goals as goal

pub returns-then-self-clause-steps : goal.returns-then-self-clause-steps
returns-then-self-clause-steps c =
    let walk = c.args.self.now in
    let none = unescaped-done walk.inside.now walk.place c.if-self.true in
    (none, none)

pub returns-clause-steps : goal.returns-clause-steps
returns-clause-steps c =
    let walk = c.args.self.now in
    rw (← c.bytes_of.ensures) at (unescaped-turn walk.inside.now walk.place c.if-self.false)

pub returns-clause-goes : goal.returns-clause-goes
returns-clause-goes c =
    let walk = c.args.self.now in
    let turn = rw (← c.bytes_of.ensures) at (unescaped-turn walk.inside.now walk.place c.if-self.false) in
    record { on = λ _. (tt, tt, omega (arith, ap length turn)); keeps = tt; rests = λ _. tt }
