-- At each turn what lies in the row and what is still to be laid are all the parts.
use mathlib.Core.Path.{◌≡◌}
use Rattle.rows.proofs.Laying.{Laying}
use Rattle.rows.proofs.splits.Parts.{numbers_from, place}
use Rattle.rows.proofs.splits.lay_parts.Given as goal

abbrev pub invariant-loop-part : goal.invariant-loop-part
invariant-loop-part l =
    Laying place (numbers_from l.pattern) l.pattern l.initial.row l.row l.used l.part-iterator.place × (l.part-iterator.pattern.now ≡ l.pattern)
