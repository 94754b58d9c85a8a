-- The number so far is that of the bytes behind.
use mathlib.Core.Path.{◌≡◌}
use Prim.Native.Nat.{◌-◌, ◌^◌, ◌≤◌, ◌<◌}
use lib.ListN.{length, drop}
use Rattle.names.specs.Letters.{bytes_of}
use Rattle.names.proofs.letters.few_at.Given as goal

abbrev pub invariant-loop-i : goal.invariant-loop-i
invariant-loop-i l = (l.at ≤ l.i) × (l.number < 256 ^ (length l.text - l.i)) × (bytes_of (length l.text - l.i) l.number ≡ drop l.i l.text)
