-- What lies there and the text of what is left of the pattern are the whole text.
use Prim.Native.Nat.{◌+◌}
use lib.ListN.{length, drop}
use lib.Seq.{sets}
use mathlib.Core.Path.{◌≡◌}
use Rattle.meaning.specs.OpenedBooks.{book_in}
use Rattle.meaning.specs.Whole.{text}
use Rattle.writer.proofs.walk.format_parts.Given as goal

abbrev pub invariant-loop-part : goal.invariant-loop-part
invariant-loop-part l =
    (sets l.out l.at (text l.pair (book_in l.book) (drop l.part-iterator.place l.pattern) l.f) ≡ sets l.initial.out 0 (text l.pair (book_in l.book) l.pattern l.f))
    × (l.at + length (text l.pair (book_in l.book) (drop l.part-iterator.place l.pattern) l.f) ≡ length (text l.pair (book_in l.book) l.pattern l.f))
    × (l.part-iterator.pattern.now ≡ l.pattern)
