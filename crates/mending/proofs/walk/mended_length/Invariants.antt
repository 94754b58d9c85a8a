-- What is counted and the mended pattern of what is left are as long as the whole.
use Prim.Native.Nat.{◌+◌}
use lib.ListN.{length}
use mathlib.Core.Path.{◌≡◌}
use Rattle.mending.proofs.walk.Laws.{left_from}
use Rattle.trust.specs.Mending.{mended}
use Rattle.mending.proofs.walk.mended_length.Given as goal

abbrev pub invariant-loop-part : goal.invariant-loop-part
invariant-loop-part l =
    (l.n + length (left_from l.edition l.pattern l.part-iterator.place) ≡ length (mended l.edition l.pattern)) × (l.part-iterator.pattern.now ≡ l.pattern)
