-- By its bit.
use Prim.Native.Nat.{◌/◌, ◌%◌}
use borrow.Author.Tests.{eq-eqb, ne_eqb}
use Rattle.sheet.proofs.numbers.edition_of.Goals as goal

pub returns-then-number-eq1 : goal.returns-then-number-eq1
returns-then-number-eq1 c = rw (eq-eqb (c.args.number / 4 % 2) 1 c.if-number-eq1.true)

pub returns : goal.returns
returns c = rw (ne_eqb (c.args.number / 4 % 2) 1 c.if-number-eq1.false)
