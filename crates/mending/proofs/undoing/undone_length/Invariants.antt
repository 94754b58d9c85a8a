-- What is counted and what is left are as long as the whole.
use Prim.Native.Nat.{◌+◌, ◌≤◌}
use lib.ListN.{length, drop}
use mathlib.Core.Bool.{true}
use mathlib.Core.Path.{◌≡◌}
use Rattle.meaning.specs.Mending.{all_fit, undone_from}
use Rattle.mending.proofs.undoing.undone_length.Given as goal

abbrev pub invariant-loop-change : goal.invariant-loop-change
invariant-loop-change l =
    (all_fit l.pattern l.at (drop l.change-index l.changes) ≡ true)
    × (l.n + length (undone_from l.pattern l.at (drop l.change-index l.changes)) ≡ length (undone_from l.pattern 0 l.changes))
    × (l.n ≤ l.at) × (l.at ≤ length l.pattern)
