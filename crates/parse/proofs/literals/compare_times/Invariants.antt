-- What is compared so far is the same, and the rest decides.
use lib.ListN.{replicate}
use mathlib.Core.Path.{◌≡◌}
use Prim.Native.Nat.{◌-◌, ◌≤◌}
use Rattle.parse.specs.Literals.{compared_from}
use Rattle.parse.proofs.literals.compare_times.Given as goal

abbrev pub invariant-loop-i : goal.invariant-loop-i
invariant-loop-i l =
    (compared_from l.i (replicate (l.end - l.i) l.byte) l.text ≡ compared_from (l.end - l.count) (replicate l.count l.byte) l.text) × (l.i ≤ l.end)
