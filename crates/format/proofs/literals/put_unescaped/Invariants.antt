-- What lies there and what the bytes still to come stand for are the whole inside.
use Rattle.pattern.proofs.quoted.Laying.{Laying}
use Rattle.pattern.specs.First.{unescaped}
use Rattle.pattern.specs.Unescaping.{bytes_left}
use Rattle.format.proofs.literals.put_unescaped.Given as goal

abbrev pub invariant-loop-b : goal.invariant-loop-b
invariant-loop-b l = Laying l.initial.out l.out l.at l.next (unescaped l.src) (bytes_left l.b-iterator)
