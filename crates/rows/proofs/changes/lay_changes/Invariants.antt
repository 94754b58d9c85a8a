-- At each turn what lies in the row and what is still to be laid are all the changes.
use Prim.Native.Nat.{◌*◌}
use lib.ListN.{length, drop}
use lib.Seq.{sets}
use mathlib.Core.Path.{◌≡◌}
use Rattle.meaning.specs.Mending.{change_numbers}
use Rattle.rows.specs.Rows.{laid}
use Rattle.rows.proofs.changes.lay_changes.Given as goal

abbrev pub invariant-loop-i : goal.invariant-loop-i
invariant-loop-i l = (sets l.row (4 * l.i) (change_numbers (drop l.i l.changes)) ≡ laid (change_numbers l.changes) l.initial.row) × (length l.row ≡ length l.initial.row)
