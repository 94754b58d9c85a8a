-- What lies there and the letters still to be laid are the name.
use Prim.Native.Nat.{◌+◌}
use lib.ListN.{length, drop}
use lib.Seq.{sets}
use mathlib.Core.Path.{◌≡◌}
use Rattle.names.specs.Table.{name_in}
use Rattle.names.proofs.tables.put_name.Given as goal

abbrev pub invariant-loop-j : goal.invariant-loop-j
invariant-loop-j l =
    (sets l.out (l.at + l.j) (drop l.j (name_in l.most l.rows l.index)) ≡ sets l.initial.out l.at (name_in l.most l.rows l.index)) × (length l.out ≡ length l.initial.out)
