-- What lies there and the mended pattern of what is left are the whole mended pattern.
use Prim.Native.Nat.{◌+◌}
use lib.ListN.{length}
use lib.Seq.{sets}
use mathlib.Core.Path.{◌≡◌}
use Rattle.mending.proofs.walk.Laws.{left_from}
use Rattle.trust.specs.Mending.{mended}
use Rattle.mending.proofs.walk.put_mended.Given as goal

abbrev pub invariant-loop-part : goal.invariant-loop-part
invariant-loop-part l =
    (sets l.out l.at (left_from l.edition l.pattern l.part-iterator.place) ≡ sets l.initial.out 0 (mended l.edition l.pattern))
    × (l.at + length (left_from l.edition l.pattern l.part-iterator.place) ≡ length (mended l.edition l.pattern))
    × (length l.out ≡ length l.initial.out)
    × (l.part-iterator.pattern.now ≡ l.pattern)
