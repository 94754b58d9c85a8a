-- `run_end` meets its contract: at each turn the run from the start ends where the run from here does.
use mathlib.Core.Path.{◌≡◌}
use Prim.Native.Nat.{◌+◌, ◌-◌, ◌≤◌}
use lib.ListN.{length, drop}
use Rattle.pattern.specs.First.{run_length}
use Rattle.pattern.proofs.parts.run_end.Given as goal

abbrev pub invariant-loop-i : goal.invariant-loop-i
invariant-loop-i l = (l.i ≤ length l.pattern) × (l.at + run_length l.b (drop l.at l.pattern) ≡ l.i + run_length l.b (drop l.i l.pattern))

abbrev pub decreases-loop-i : goal.decreases-loop-i
decreases-loop-i l = length l.pattern - l.i
