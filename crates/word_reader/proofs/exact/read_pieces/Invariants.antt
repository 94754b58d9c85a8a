-- What is read so far stands in the row, and the walk that is left: from a piece of a word on.
use lib.ListN.{length, get_or, take, drop}
use mathlib.Core.List.{List, [], ◌++◌}
use mathlib.Core.Path.{◌≡◌}
use Prim.Native.Nat.{◌+◌, ◌*◌, ◌-◌, ◌≤◌}
use Rattle.meaning.specs.OpenedBooks.{book_in}
use Rattle.meaning.specs.Whole.{Gave, walk}
use Rattle.words.specs.Pieces.{pieces_in, steps_of}
use Rattle.word_reader.specs.Quick.{row_of, mask_of}
use Rattle.word_reader.proofs.exact.read_pieces.Given as goal

abbrev pub invariant-loop-i : goal.invariant-loop-i
invariant-loop-i l = (gave : List Gave)
    × (walk l.choices (book_in l.book) l.current_year l.part l.at (drop l.k (steps_of l.tail (drop l.i (take l.used l.tail)))) (drop l.at l.text) gave
    ≡ walk l.choices (book_in l.book) l.current_year 0 0 (steps_of l.tail (take l.used l.tail)) l.text [])
    × (l.answer ≡ row_of gave ++ drop 48 l.initial.answer)
    × (l.mask ≡ mask_of gave)
    × (l.at ≤ length l.text)
    × (l.k ≤ length (pieces_in (get_or l.tail l.i 0)))
    × (l.part ≤ 8 * l.i + l.k)
    × (l.i ≤ l.used)
    × (length l.answer ≡ length l.initial.answer)

abbrev pub decreases-loop-i : goal.decreases-loop-i
decreases-loop-i l = 8 * (l.used - l.i) - l.k
