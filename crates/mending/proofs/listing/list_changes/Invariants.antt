-- What is listed and the changes of what is left of the pattern are all changes.
use mathlib.Core.Path.{◌≡◌}
use Rattle.mending.proofs.listing.Laws.{Listed}
use Rattle.mending.proofs.listing.list_changes.Given as goal

abbrev pub invariant-loop-part : goal.invariant-loop-part
invariant-loop-part l = Listed l.edition l.pattern l.changes l.at l.part-iterator.place × (l.part-iterator.pattern.now ≡ l.pattern)
