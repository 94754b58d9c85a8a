-- At each turn what is listed and the changes that are left are all changes.
use Prim.Native.Nat.{◌*◌}
use lib.ListN.{length, take, drop}
use mathlib.Core.Bool.{true}
use mathlib.Core.List.{◌++◌}
use mathlib.Core.Path.{◌≡◌}
use Rattle.rows.specs.Changes.{are_changes, changes_held}
use Rattle.rows.proofs.changes.changes_held.Given as goal

abbrev pub invariant-loop-i : goal.invariant-loop-i
invariant-loop-i l =
    (take l.i l.listed ++ changes_held (drop (4 * l.i) l.row) ≡ changes_held l.row)
    × (are_changes (drop (4 * l.i) l.row) ≡ true) × (length l.listed ≡ 128)
