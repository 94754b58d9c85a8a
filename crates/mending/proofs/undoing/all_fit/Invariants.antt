-- Those that are left fit where all do.
use Prim.Native.Nat.{◌≤◌}
use lib.ListN.{length, drop}
use mathlib.Core.Path.{◌≡◌}
use Rattle.meaning.specs.Mending.{all_fit}
use Rattle.mending.proofs.undoing.all_fit.Given as goal

abbrev pub invariant-loop-change : goal.invariant-loop-change
invariant-loop-change l = (all_fit l.pattern l.at (drop l.change-index l.changes) ≡ all_fit l.pattern 0 l.changes) × (l.at ≤ length l.pattern)
