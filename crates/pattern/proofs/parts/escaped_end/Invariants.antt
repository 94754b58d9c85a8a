-- `escaped_end` meets its contract: at each turn the escaped quotes from the start end where those from here do.
use mathlib.Core.Path.{◌≡◌}
use Prim.Native.Nat.{◌+◌, ◌*◌, ◌-◌, ◌≤◌}
use lib.ListN.{length, drop}
use Rattle.pattern.specs.First.{escaped_count}
use Rattle.pattern.proofs.parts.escaped_end.Given as goal

abbrev pub invariant-loop-behind : goal.invariant-loop-behind
invariant-loop-behind l = (l.behind ≤ length l.pattern) × (l.at + 2 * escaped_count (drop l.at l.pattern) ≡ l.behind + 2 * escaped_count (drop l.behind l.pattern))

abbrev pub decreases-loop-behind : goal.decreases-loop-behind
decreases-loop-behind l = length l.pattern - l.behind
