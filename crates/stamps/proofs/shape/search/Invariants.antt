-- What is left to be searched has the first wrong byte of all.
use mathlib.Core.Path.{◌≡◌}
use Prim.Native.Nat.{◌+◌, ◌-◌, ◌≤◌}
use Rattle.stamps.specs.Shape.{first_wrong}
use Rattle.stamps.proofs.shape.search.Given as goal

abbrev pub invariant-loop-i : goal.invariant-loop-i
invariant-loop-i l =
    (l.i ≤ l.count) × (first_wrong (l.count - l.i) (l.shape + l.i) (l.at + l.i) l.text ≡ first_wrong l.count l.shape l.at l.text)
