-- What lies there and the bytes still to be laid are all that are held.
use Prim.Native.Nat.{◌+◌}
use lib.ListN.{drop}
use lib.Seq.{sets}
use mathlib.Core.Path.{◌≡◌}
use Rattle.words.specs.Pieces.{held_bytes}
use Rattle.word_writer.proofs.writing.put_held.Given as goal

abbrev pub invariant-loop-j : goal.invariant-loop-j
invariant-loop-j l = sets l.out (l.at + l.j) (drop l.j (held_bytes l.tail l.from l.n)) ≡ sets l.initial.out l.at (held_bytes l.tail l.from l.n)
