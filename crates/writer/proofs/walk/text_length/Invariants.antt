-- What is counted and the text of what is left of the pattern are as long as the whole text.
use Prim.Native.Nat.{◌+◌}
use lib.ListN.{length, drop}
use mathlib.Core.Path.{◌≡◌}
use Rattle.meaning.specs.OpenedBooks.{book_in}
use Rattle.meaning.specs.Whole.{text}
use Rattle.writer.proofs.walk.text_length.Given as goal

abbrev pub invariant-loop-part : goal.invariant-loop-part
invariant-loop-part l =
    (l.n + length (text l.pair (book_in l.book) (drop l.part-iterator.place l.pattern) l.f) ≡ length (text l.pair (book_in l.book) l.pattern l.f))
    × (l.part-iterator.pattern.now ≡ l.pattern)
