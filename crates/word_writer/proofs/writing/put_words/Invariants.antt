-- What lies there and the text of the words that are left are the whole text.
use Prim.Native.Nat.{◌+◌}
use lib.ListN.{length, take, drop}
use lib.Seq.{sets}
use mathlib.Core.Path.{◌≡◌}
use Rattle.word_writer.specs.Written.{words_text}
use Rattle.word_writer.proofs.writing.put_words.Given as goal

abbrev pub invariant-loop-w : goal.invariant-loop-w
invariant-loop-w l =
    (sets l.out l.at (words_text l.book l.tail l.f (drop l.w-index (take l.used l.tail))) ≡ sets l.initial.out 0 (words_text l.book l.tail l.f (take l.used l.tail)))
    × (l.at + length (words_text l.book l.tail l.f (drop l.w-index (take l.used l.tail))) ≡ length (words_text l.book l.tail l.f (take l.used l.tail)))
    × (length l.out ≡ length l.initial.out)
