-- What is read so far stands in the row, and the walk that is left.
use mathlib.Core.List.{List, [], ◌++◌}
use mathlib.Core.Path.{◌≡◌}
use Prim.Native.Nat.{ℕ, ◌≤◌}
use lib.ListN.{length, take, drop}
use Rattle.meaning.specs.OpenedBooks.{book_in}
use Rattle.meaning.specs.Whole.{Gave, walk}
use Rattle.words.specs.Pieces.{steps_of}
use Rattle.word_reader.specs.Quick.{row_of, mask_of}
use Rattle.word_reader.proofs.quick.quick_words.Given as goal

abbrev pub invariant-loop-i : goal.invariant-loop-i
invariant-loop-i l = (gave : List Gave)
    × (n : ℕ)
    × (walk l.choices (book_in l.book) l.current_year n l.moved.next (steps_of l.tail (drop l.i (take l.used l.tail))) (drop l.moved.next l.text) gave
    ≡ walk l.choices (book_in l.book) l.current_year 0 0 (steps_of l.tail (take l.used l.tail)) l.text [])
    × (l.answer ≡ row_of gave ++ drop 48 l.initial.answer)
    × (l.moved.mask ≡ mask_of gave)
    × (l.moved.next ≤ length l.text)
    × (length l.answer ≡ length l.initial.answer)
    × (l.i ≤ l.used)
