-- What is summed and what the digits to come weigh is what all weigh.
use mathlib.Core.Path.{◌≡◌}
use Prim.Native.Nat.{◌+◌, ◌-◌}
use lib.ListN.{drop}
use Rattle.meaning.specs.Reading.{digit_run}
use Rattle.stamps.specs.Fractions.{weighted}
use Rattle.stamps.specs.Fractions.{weight as weight_of}
use Rattle.stamps.proofs.grammar.fraction_digits.Given as goal

abbrev pub invariant-loop-i : goal.invariant-loop-i
invariant-loop-i l =
    (l.weight ≡ weight_of (9 - l.i))
    × (l.nanos + weighted (9 - l.i) (drop l.i l.text) ≡ weighted 9 l.text)
    × (l.i + digit_run (drop l.i l.text) ≡ digit_run l.text)
