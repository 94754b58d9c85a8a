-- What lies there and the bytes still to be laid are all the bytes.
use Prim.Native.Nat.{◌+◌}
use lib.ListN.{length, drop}
use lib.Seq.{sets}
use mathlib.Core.Path.{◌≡◌}
use Rattle.digits.proofs.laying.put_bytes.Given as goal

abbrev pub invariant-loop-j : goal.invariant-loop-j
invariant-loop-j l = (sets l.out (l.at + l.j) (drop l.j l.src) ≡ sets l.initial.out l.at l.src) × (length l.out ≡ length l.initial.out)
