-- The digits passed and those still to come are all that stand there.
use Prim.Native.Nat.{◌+◌, ◌≤◌}
use lib.ListN.{drop}
use mathlib.Core.Path.{◌≡◌}
use Rattle.meaning.specs.Reading as reading
use Rattle.parse.proofs.years.digit_run.Given as goal

abbrev pub invariant-loop-i : goal.invariant-loop-i
invariant-loop-i l = (l.i + reading.digit_run (drop l.i l.text) ≡ l.at + reading.digit_run (drop l.at l.text)) × (l.at ≤ l.i)
