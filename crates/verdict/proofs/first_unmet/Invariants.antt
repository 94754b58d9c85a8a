-- The first from here on is the first of all.
use Prim.Native.Nat.{◌-◌, ◌≤◌}
use lib.ListN.{drop}
use mathlib.Core.Path.{◌≡◌}
use Rattle.meaning.specs.Splitting.{contents}
use Rattle.trust.specs.Check.{first_unmet}
use Rattle.verdict.proofs.first_unmet.Given as goal

abbrev pub invariant-loop-place : goal.invariant-loop-place
invariant-loop-place l =
    (first_unmet l.edition (l.to - l.place) l.i (contents (drop l.place l.pattern)) ≡ first_unmet l.edition (l.to - l.from) 0 (contents (drop l.from l.pattern))) × (l.i ≤ l.place)

abbrev pub decreases-loop-place : goal.decreases-loop-place
decreases-loop-place l = l.to - l.place
