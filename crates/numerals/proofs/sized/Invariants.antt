-- The digits read so far and those still to come give the whole number; one that is too large stays so.
use Prim.Native.Nat.{◌≤◌}
use lib.ListN.{drop}
use mathlib.Core.Path.{◌≡◌}
use Rattle.numerals.proofs.Sizing.{sized_from}
use Rattle.numerals.proofs.sized.Given as goal

abbrev pub invariant-loop-d : goal.invariant-loop-d
invariant-loop-d l =
    (sized_from l.most l.negative l.size (drop l.d-index l.digits) ≡ sized_from l.most l.negative 0 l.digits) × (l.size ≤ l.most) × (l.most ≤ 4294967295)
