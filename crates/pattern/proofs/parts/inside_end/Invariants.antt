-- `inside_end` meets its contract: at each turn the inside from the start ends where that from here does.
use mathlib.Core.Path.{◌≡◌}
use Prim.Native.Nat.{◌+◌, ◌-◌, ◌≤◌}
use lib.ListN.{length, drop}
use Rattle.pattern.specs.First.{inside_size}
use Rattle.pattern.proofs.parts.inside_end.Given as goal

abbrev pub invariant-loop-i : goal.invariant-loop-i
invariant-loop-i l = (l.i ≤ length l.pattern) × (l.at + inside_size (drop l.at l.pattern) ≡ l.i + inside_size (drop l.i l.pattern))

abbrev pub decreases-loop-i : goal.decreases-loop-i
decreases-loop-i l = length l.pattern - l.i
