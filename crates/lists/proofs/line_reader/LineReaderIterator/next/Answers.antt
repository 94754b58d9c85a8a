use mathlib.Core.Path.{refl, ap}
use lib.ListN.{length}
use native.Mathlib.Omega.{arith}
use Rattle.lists.proofs.line_reader.Walks.{line_left, none_left}
use Rattle.lists.proofs.line_reader.LineReaderIterator.next.Goals as goal

pub returns-then-self-clause-steps : goal.returns-then-self-clause-steps
returns-then-self-clause-steps c =
    let walk = c.args.self.now in
    let none = none_left walk.text.now walk.at c.if-self.true in
    ((none, none), refl, c.if-self.true)

pub returns-clause-steps : goal.returns-clause-steps
returns-clause-steps c =
    let walk = c.args.self.now in
    let line = c.line_at-line.ensures in
    (rw line (line_left walk.text.now walk.at c.if-self.false), refl, (c.if-self.false, line, refl))

pub returns-clause-goes : goal.returns-clause-goes
returns-clause-goes c =
    let walk = c.args.self.now in
    let left = line_left walk.text.now walk.at c.if-self.false in
    record { on = λ _. (tt, tt, rw c.line_at-line.ensures (omega (arith, ap length left))); keeps = tt; rests = λ _. tt }
