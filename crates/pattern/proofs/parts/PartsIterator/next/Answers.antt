use mathlib.Core.Path.{refl, ap}
use lib.ListN.{length}
use native.Mathlib.Omega.{arith}
use Rattle.pattern.proofs.parts.Next.{next}
use Rattle.pattern.proofs.parts.Walks.{parts-done}
use Rattle.pattern.proofs.parts.PartsIterator.next.Goals as goal

pub returns-then-self-clause-steps : goal.returns-then-self-clause-steps
returns-then-self-clause-steps c =
    let walk = c.args.self.now in
    let none = parts-done walk.pattern.now walk.place c.if-self.true in
    ((none, none), refl, c.if-self.true)

pub overflow_add-self : goal.overflow_add-self
overflow_add-self c =
    let walk = c.args.self.now in
    let n = next walk.pattern.now walk.place c.next_part-part.result c.if-self.false c.next_part-part.ensures in
    omega (arith, n.fits)

pub returns-clause-steps : goal.returns-clause-steps
returns-clause-steps c =
    let walk = c.args.self.now in
    let n = next walk.pattern.now walk.place c.next_part-part.result c.if-self.false c.next_part-part.ensures in
    (n.parts, refl, (n, refl))

pub returns-clause-goes : goal.returns-clause-goes
returns-clause-goes c =
    let walk = c.args.self.now in
    let n = next walk.pattern.now walk.place c.next_part-part.result c.if-self.false c.next_part-part.ensures in
    record { on = λ _. (tt, tt, omega (arith, ap length n.parts)); keeps = tt; rests = λ _. tt }
