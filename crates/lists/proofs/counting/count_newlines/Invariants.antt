-- At each turn the newlines are those counted, and those from here on.
use mathlib.Core.Path.{◌≡◌}
use Prim.Native.Nat.{◌+◌, ◌≤◌}
use lib.ListN.{drop}
use Rattle.laws.specs.Lists.{newlines}
use Rattle.lists.proofs.counting.count_newlines.Given as goal

abbrev pub invariant-loop-b : goal.invariant-loop-b
invariant-loop-b l = (l.n ≤ l.b-index) × (l.n + newlines (drop l.b-index l.text) ≡ newlines l.text)
