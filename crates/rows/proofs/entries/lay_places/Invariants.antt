-- What lies there and the places still to be laid are all the places.
use Prim.Native.Nat.{◌+◌}
use lib.IntN.{pos}
use lib.ListN.{length, drop}
use lib.Seq.{sets}
use mathlib.Core.List.{map}
use mathlib.Core.Path.{◌≡◌}
use Rattle.rows.proofs.entries.lay_places.Given as goal

abbrev pub invariant-loop-j : goal.invariant-loop-j
invariant-loop-j l =
    (sets l.row (l.at + l.j) (drop l.j (map pos l.places)) ≡ sets l.initial.row l.at (map pos l.places)) × (length l.row ≡ length l.initial.row)
