-- At each turn the largest byte is that of the bytes passed, or one from here.
use mathlib.Core.Path.{◌≡◌}
use Prim.Native.Nat.{max}
use lib.ListN.{drop}
use Rattle.reader.specs.Largest.{largest_of}
use Rattle.reader.proofs.checks.largest.Given as goal

abbrev pub invariant-loop-b : goal.invariant-loop-b
invariant-loop-b l = largest_of l.text ≡ max l.most (largest_of (drop l.b-index l.text))
