-- The length that a room has, at most the most.
use Prim.Native.Nat.{◌*◌}
use native.Mathlib.Omega.{arith}
use Rattle.names.proofs.tables.Laws.{room}
use Rattle.names.proofs.tables.length_at.Goals as goal

pub overflow_cast-size : goal.overflow_cast-size
overflow_cast-size c =
    omega (arith, c.type_inv.rows (c.args.index * 21))

pub returns : goal.returns
returns c =
    omega (arith, c.min.ensures, (room c.args.most c.args.rows.now c.args.index c.requires.0 c.requires.1).size)
