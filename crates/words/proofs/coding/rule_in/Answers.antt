-- The rule of each kind.
use borrow.Author.Tests.{ne_eqb}
use Prim.Native.Nat.{◌/◌, ◌%◌}
use native.Mathlib.Omega.{arith}
use Rattle.words.specs.Coding.{rule_of_kind}
use Rattle.words.proofs.coding.rule_in.Goals as goal

pub returns-in-0 : goal.returns-in-0
unfolding rule_of_kind
returns-in-0 c = rw (c.in-0.is, c.quantity.ensures, c.least.ensures, c.most.ensures, c.unit.ensures)

pub returns-in-1 : goal.returns-in-1
unfolding rule_of_kind
returns-in-1 c = rw (c.in-1.is, c.quantity-in-1.ensures, c.least-in-1.ensures, c.most-in-1.ensures)

pub returns-in-2 : goal.returns-in-2
unfolding rule_of_kind
returns-in-2 c = rw c.in-2.is

pub returns-in-3 : goal.returns-in-3
unfolding rule_of_kind
returns-in-3 c = rw (c.in-3.is, c.list.ensures, c.size.ensures)

pub returns-in-4 : goal.returns-in-4
unfolding rule_of_kind
returns-in-4 c = rw (c.in-4.is, c.list-in-4.ensures)

pub returns-in-5 : goal.returns-in-5
unfolding rule_of_kind
returns-in-5 c = rw (c.in-5.is, c.list-in-5.ensures, c.size-in-5.ensures)

pub returns-in-6 : goal.returns-in-6
unfolding rule_of_kind
returns-in-6 c = rw c.in-6.is

pub returns-in_default : goal.returns-in_default
unfolding rule_of_kind
returns-in_default c = simp (c.zone_in.ensures, ne_eqb (c.args.w / 32 % 16) 0 (omega arith), ne_eqb (c.args.w / 32 % 16) 1 (omega arith), ne_eqb (c.args.w / 32 % 16) 2 (omega arith), ne_eqb (c.args.w / 32 % 16) 3 (omega arith), ne_eqb (c.args.w / 32 % 16) 4 (omega arith), ne_eqb (c.args.w / 32 % 16) 5 (omega arith), ne_eqb (c.args.w / 32 % 16) 6 (omega arith))
