-- What lies there and what is left are the whole.
use Prim.Native.Nat.{◌+◌, ◌≤◌}
use lib.ListN.{length, drop}
use lib.Seq.{sets}
use mathlib.Core.Bool.{true}
use mathlib.Core.Path.{◌≡◌}
use Rattle.meaning.specs.Mending.{all_fit, undone_from}
use Rattle.mending.proofs.undoing.put_undone.Given as goal

abbrev pub invariant-loop-change : goal.invariant-loop-change
invariant-loop-change l =
    (all_fit l.pattern l.at (drop l.change-index l.changes) ≡ true)
    × (sets l.out l.to (undone_from l.pattern l.at (drop l.change-index l.changes)) ≡ sets l.initial.out 0 (undone_from l.pattern 0 l.changes))
    × (l.to + length (undone_from l.pattern l.at (drop l.change-index l.changes)) ≡ length (undone_from l.pattern 0 l.changes))
    × (l.at ≤ length l.pattern) × (length l.out ≡ length l.initial.out)
