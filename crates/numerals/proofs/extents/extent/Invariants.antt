-- As far as from the bytes passed is as far as from the first.
use Prim.Native.Nat.{◌-◌}
use lib.ListN.{drop}
use mathlib.Core.Path.{◌≡◌}
use Rattle.meaning.specs.Readers.{reach}
use Rattle.numerals.proofs.extents.extent.Given as goal

abbrev pub invariant-loop-k : goal.invariant-loop-k
invariant-loop-k l = reach (l.most - l.k) l.k (drop l.at l.text) ≡ reach (l.most - l.least) l.least (drop l.at l.text)
