-- What is read so far, and the walk that is left.
use Prim.Native.Nat.{◌≤◌}
use lib.ListN.{length, drop}
use mathlib.Core.List.{List, []}
use mathlib.Core.Path.{◌≡◌}
use Rattle.meaning.specs.OpenedBooks.{book_in}
use Rattle.meaning.specs.Whole.{Gave, walk}
use Rattle.meaning.specs.Writing.{steps}
use Rattle.reader.proofs.record.Units.{Holds}
use Rattle.reader.proofs.walk.parse_parts.Given as goal

abbrev pub invariant-loop-part : goal.invariant-loop-part
invariant-loop-part l =
    (gave : List Gave)
    × (Holds gave l.values l.starts l.ends l.mask)
    × (walk l.choices (book_in l.book) l.current_year l.i l.at (steps l.choices.pair (drop l.part-iterator.place l.pattern)) (drop l.at l.text) gave
    ≡ walk l.choices (book_in l.book) l.current_year 0 0 (steps l.choices.pair l.pattern) l.text [])
    × (l.at ≤ length l.text)
    × (l.i ≤ l.part-iterator.place)
    × (l.part-iterator.pattern.now ≡ l.pattern)
