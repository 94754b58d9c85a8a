-- `split_parts` meets its contract: at each turn the first entries are the parts before the walk's place.
use mathlib.Core.Path.{◌≡◌}
use Rattle.pattern.proofs.Splits.{Filled}
use Rattle.pattern.proofs.split_parts.Given as goal

abbrev pub invariant-loop-part : goal.invariant-loop-part
invariant-loop-part l =
    (l.part-iterator.pattern.now ≡ l.pattern) × Filled l.pattern l.parts l.used l.part-iterator.place
