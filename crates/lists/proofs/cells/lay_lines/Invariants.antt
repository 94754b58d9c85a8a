-- Each turn reads the line at the walk's place and stores its cells, whatever reading the reader stands for.
use mathlib.Core.List.{List}
use mathlib.Core.Path.{◌≡◌}
use Prim.Native.Nat.{ℕ}
use Rattle.std.specs.Iterator.Adapters.{enumerate_source, enumerate_count}
use Rattle.std.specs.Prelude.{Result}
use lib.ListN.{length}
use Rattle.meaning.specs.declared.Reading.{Reading}
use Rattle.meaning.specs.declared.Refusal.{Refusal}
use Rattle.lists.specs.LentRows.{rows_in, SameRows}
use Rattle.lists.specs.LineReaders.{StandsFor}
use Rattle.lists.proofs.cells.Stored.{Walked, Unfinished}
use Rattle.lists.proofs.cells.lay_lines.Given as goal

abbrev pub invariant-loop-i : goal.invariant-loop-i
invariant-loop-i g l =
    let walk = enumerate_source l.i-iterator in
    let i = enumerate_count l.i-iterator in
    let old = rows_in l.initial.rows in
    let rows = rows_in l.rows in
    Walked l.text old rows walk.at i
    × (length l.answer ≡ 48)
    × (walk.text.now ≡ l.text)
    × SameRows l.initial.rows l.rows
    × ((reading : List ℕ → Result Reading Refusal) → StandsFor (goal.F-post g l.read) reading
    → Unfinished reading l.text old rows walk.at i)
