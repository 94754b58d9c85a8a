-- The three, one after the other.
use Prim.Native.Nat.{◌-◌}
use lib.ListN.{length-replicate}
use native.Mathlib.Omega.{arith}
use Rattle.laws.proofs.Laid.{laid_then}
use Rattle.mending.proofs.walk.put_part.Goals as goal

pub put_times-requires : goal.put_times-requires
put_times-requires c =
    let first = c.put_bytes-next in
    let second = c.put_times-next in
    let own = c.args.own in
    omega (arith, c.requires.spaces_in_bounds, first.ensures.end, first.auto.out, second.ensures.end, second.auto.out, length-replicate (own.after - own.before) own.byte)

pub returns : goal.returns
returns c = laid_then (laid_then c.put_bytes-next.ensures c.put_times-next.ensures) c.put_times.ensures
