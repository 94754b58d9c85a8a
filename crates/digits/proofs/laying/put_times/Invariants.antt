-- What lies there and the times still to come are all the times.
use Prim.Native.Nat.{◌+◌, ◌-◌}
use lib.ListN.{replicate}
use lib.Seq.{sets}
use mathlib.Core.Path.{◌≡◌}
use Rattle.digits.proofs.laying.put_times.Given as goal

abbrev pub invariant-loop-j : goal.invariant-loop-j
invariant-loop-j l = sets l.out (l.at + l.j) (replicate (l.times - l.j) l.b) ≡ sets l.initial.out l.at (replicate l.times l.b)
