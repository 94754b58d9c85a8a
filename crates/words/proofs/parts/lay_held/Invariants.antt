-- What lies there and what the bytes still to come stand for are the whole inside.
use Prim.Native.Nat.{◌+◌}
use Rattle.pattern.proofs.quoted.Laying.{Laying}
use Rattle.pattern.specs.First.{unescaped}
use Rattle.pattern.specs.Unescaping.{bytes_left}
use Rattle.words.proofs.parts.lay_held.Given as goal

abbrev pub invariant-loop-i : goal.invariant-loop-i
invariant-loop-i l =
    Laying l.initial.tail l.tail l.at (l.at + l.i-iterator.count) (unescaped l.src) (bytes_left l.i-iterator.iter)
