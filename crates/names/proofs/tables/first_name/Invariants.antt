-- `tables::first_name` meets its contract. The loop over names keeps the match that remains, the loop over bytes the
-- comparison that remains and what the name's room holds.
use mathlib.Core.Path.{◌≡◌}
use Prim.Native.Nat.{◌≤◌, ◌-◌}
use lib.ListN.{drop}
use Rattle.meaning.specs.OpenedBooks.{names_at}
use Rattle.meaning.specs.Readers.{begins, first_name, match_name}
use Rattle.names.specs.Table.{name_in}
use Rattle.names.proofs.tables.Laws.{Room}
use Rattle.names.proofs.tables.first_name.Given as goal

abbrev pub invariant-loop-j : goal.invariant-loop-j
invariant-loop-j l =
    (l.index ≡ l.initial.index) × (l.j ≤ l.length) × (Room l.most l.rows l.initial.index)
    × (begins (name_in l.most l.rows l.initial.index) l.text ≡ begins (drop l.j (name_in l.most l.rows l.initial.index)) (drop l.j l.text))

abbrev pub decreases-loop-j : goal.decreases-loop-j
decreases-loop-j l = l.length - l.j

abbrev pub invariant-names : goal.invariant-names
invariant-names l =
    (l.index ≤ l.count) × (match_name (names_at l.most l.count l.rows) l.text ≡ first_name l.index (drop l.index (names_at l.most l.count l.rows)) l.text)

abbrev pub decreases-names : goal.decreases-names
decreases-names l = l.count - l.index
