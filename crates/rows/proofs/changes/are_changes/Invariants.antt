-- Those that are left are changes where all are.
use Prim.Native.Nat.{◌*◌}
use lib.ListN.{drop}
use mathlib.Core.Path.{◌≡◌}
use Rattle.rows.specs.Changes.{are_changes}
use Rattle.rows.proofs.changes.are_changes.Given as goal

abbrev pub invariant-loop-i : goal.invariant-loop-i
invariant-loop-i l = are_changes (drop (4 * l.i) l.row) ≡ are_changes l.row
