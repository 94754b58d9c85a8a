-- What is laid, and what the parts still to come are packed into, are all of it.
use mathlib.Core.Path.{◌≡◌}
use Rattle.words.proofs.packing.Turns.{Left}
use Rattle.words.proofs.packing.pack.Given as goal

abbrev pub invariant-loop-part : goal.invariant-loop-part
invariant-loop-part l =
    Left l.pair l.pattern l.initial.tail l.tail l.pending l.held l.part-iterator.place × (l.part-iterator.pattern.now ≡ l.pattern)
