-- The pieces so far are read and kept.
use mathlib.Core.List.{List}
use mathlib.Core.Path.{◌≡◌}
use Prim.Native.Nat.{◌≤◌}
use lib.ListN.{length, take, drop}
use Rattle.meaning.specs.OpenedBooks.{book_in}
use Rattle.meaning.specs.Whole.{Gave}
use Rattle.words.specs.Pieces.{steps_in}
use Rattle.word_reader.specs.Quick.{Moves, Kept}
use Rattle.word_reader.proofs.quick.quick_pieces.Given as goal

abbrev pub invariant-loop-k : goal.invariant-loop-k
invariant-loop-k l = (gs : List Gave)
    × (Moves l.choices (book_in l.book) l.current_year (take l.k (steps_in l.tail l.w)) l.text l.fn.from.next l.moved.next gs)
    × (Kept gs l.initial.answer l.answer l.fn.from.mask l.moved.mask)
    × (drop 48 l.answer ≡ drop 48 l.initial.answer)
    × (length l.answer ≡ length l.initial.answer)
    × (l.k ≤ l.count)
