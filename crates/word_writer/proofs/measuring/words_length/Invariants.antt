-- What is counted and the text of the words that are left are as long as the whole text, which is no longer than its most.
use Prim.Native.Nat.{◌+◌}
use lib.ListN.{length, take, drop}
use mathlib.Core.Path.{◌≡◌}
use Rattle.word_writer.specs.Written.{words_text}
use Rattle.word_writer.proofs.measuring.words_length.Given as goal

abbrev pub invariant-loop-w : goal.invariant-loop-w
invariant-loop-w l =
    l.n + length (words_text l.book l.tail l.f (drop l.w-index (take l.used l.tail))) ≡ length (words_text l.book l.tail l.f (take l.used l.tail))
