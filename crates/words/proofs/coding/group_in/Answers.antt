-- Each number by itself.
use borrow.Author.Tests.{ne_eqb}
use native.Mathlib.Omega.{arith}
use Rattle.words.proofs.coding.group_in.Goals as goal

pub returns-in-0 : goal.returns-in-0
returns-in-0 c =
    rw c.in-0.is

pub returns-in-1 : goal.returns-in-1
returns-in-1 c =
    rw c.in-1.is

pub returns-in_default : goal.returns-in_default
returns-in_default c = simp (ne_eqb c.args.n 0 (omega arith), ne_eqb c.args.n 1 (omega arith))
