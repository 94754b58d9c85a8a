-- What is summed and the words still to come make up what all of them write at most.
use mathlib.Core.Path.{◌≡◌}
use Prim.Native.Nat.{◌+◌, ◌*◌, ◌≤◌}
use lib.ListN.{drop}
use Rattle.words.specs.Pieces.{most_of}
use Rattle.word_writer.proofs.measuring.most_of.Given as goal

abbrev pub invariant-loop-w : goal.invariant-loop-w
invariant-loop-w l = (l.most ≤ l.w-index * 542) × (l.most + most_of (drop l.w-index l.words) ≡ most_of l.words)
