-- What is compared so far is the same, and the rest decides.
use lib.ListN.{length, drop}
use mathlib.Core.Path.{◌≡◌}
use Prim.Native.Nat.{◌+◌, ◌≤◌}
use Rattle.parse.specs.Literals.{compared_from}
use Rattle.word_reader.proofs.exact.Literals.{low_bytes}
use Rattle.word_reader.proofs.exact.compare_held.Given as goal

abbrev pub invariant-loop-i : goal.invariant-loop-i
invariant-loop-i l = (compared_from (l.at + l.i) (low_bytes (drop l.i l.held)) l.text ≡ compared_from l.at (low_bytes l.held) l.text) × (l.i ≤ length l.held)
