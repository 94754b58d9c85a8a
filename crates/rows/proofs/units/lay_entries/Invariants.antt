-- At each turn what lies in the row and what is still to be laid are the entries of all parts.
use mathlib.Core.Path.{◌≡◌}
use Rattle.rows.proofs.Laying.{Laying}
use Rattle.rows.proofs.units.Entries.{entries_from, place}
use Rattle.rows.proofs.units.lay_entries.Given as goal

abbrev pub invariant-loop-part : goal.invariant-loop-part
invariant-loop-part l =
    Laying place (entries_from l.pattern) l.pattern l.initial.row l.row l.used l.part-iterator.place × (l.part-iterator.pattern.now ≡ l.pattern)
