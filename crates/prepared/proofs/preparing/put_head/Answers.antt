-- Three stores.
use native.Mathlib.Omega.{arith}
use lib.ListN.{length-set}
use Rattle.prepared.proofs.preparing.put_head.Goals as goal

pub bounds-row-1 : goal.bounds-row-1
bounds-row-1 c = simp length-set (omega arith)

pub bounds-row-2 : goal.bounds-row-2
bounds-row-2 c = simp length-set (omega arith)
