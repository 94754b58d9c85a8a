-- Each number by itself; the last list is the one that is left.
use borrow.Author.Tests.{ne_eqb}
use native.Mathlib.Omega.{arith}
use Rattle.words.specs.Coding.{list_in}
use Rattle.words.proofs.coding.list_in.Goals as goal

pub returns-in-0 : goal.returns-in-0
unfolding list_in
returns-in-0 c =
    rw c.in-0.is

pub returns-in-1 : goal.returns-in-1
unfolding list_in
returns-in-1 c =
    rw c.in-1.is

pub returns-in-2 : goal.returns-in-2
unfolding list_in
returns-in-2 c =
    rw c.in-2.is

pub returns-in-3 : goal.returns-in-3
unfolding list_in
returns-in-3 c =
    rw c.in-3.is

pub returns-in-4 : goal.returns-in-4
unfolding list_in
returns-in-4 c =
    rw c.in-4.is

pub returns-in-5 : goal.returns-in-5
unfolding list_in
returns-in-5 c =
    rw c.in-5.is

pub returns-in-6 : goal.returns-in-6
unfolding list_in
returns-in-6 c =
    rw c.in-6.is

pub returns-in-7 : goal.returns-in-7
unfolding list_in
returns-in-7 c =
    rw c.in-7.is

pub returns-in-8 : goal.returns-in-8
unfolding list_in
returns-in-8 c =
    rw c.in-8.is

pub returns-in-9 : goal.returns-in-9
unfolding list_in
returns-in-9 c =
    rw c.in-9.is

pub returns-in-10 : goal.returns-in-10
unfolding list_in
returns-in-10 c =
    rw c.in-10.is

pub returns-in-11 : goal.returns-in-11
unfolding list_in
returns-in-11 c =
    rw c.in-11.is

pub returns-in-12 : goal.returns-in-12
unfolding list_in
returns-in-12 c =
    rw c.in-12.is

pub returns-in-13 : goal.returns-in-13
unfolding list_in
returns-in-13 c =
    rw c.in-13.is

pub returns-in-14 : goal.returns-in-14
unfolding list_in
returns-in-14 c =
    rw c.in-14.is

pub returns-in-15 : goal.returns-in-15
unfolding list_in
returns-in-15 c =
    rw c.in-15.is

pub returns-in-16 : goal.returns-in-16
unfolding list_in
returns-in-16 c =
    rw c.in-16.is

pub returns-in-17 : goal.returns-in-17
unfolding list_in
returns-in-17 c =
    rw c.in-17.is

pub returns-in_default : goal.returns-in_default
unfolding list_in
returns-in_default c = simp (ne_eqb c.args.n 0 (omega arith), ne_eqb c.args.n 1 (omega arith), ne_eqb c.args.n 2 (omega arith), ne_eqb c.args.n 3 (omega arith), ne_eqb c.args.n 4 (omega arith), ne_eqb c.args.n 5 (omega arith), ne_eqb c.args.n 6 (omega arith), ne_eqb c.args.n 7 (omega arith), ne_eqb c.args.n 8 (omega arith), ne_eqb c.args.n 9 (omega arith), ne_eqb c.args.n 10 (omega arith), ne_eqb c.args.n 11 (omega arith), ne_eqb c.args.n 12 (omega arith), ne_eqb c.args.n 13 (omega arith), ne_eqb c.args.n 14 (omega arith), ne_eqb c.args.n 15 (omega arith), ne_eqb c.args.n 16 (omega arith), ne_eqb c.args.n 17 (omega arith))
