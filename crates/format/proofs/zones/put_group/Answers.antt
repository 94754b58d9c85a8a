-- Two digits where the group is there, else nothing.
use mathlib.Core.Path.{refl}
use native.Mathlib.Omega.{arith}
use Rattle.format.proofs.zones.put_group.Goals as goal

pub put_marked-requires : goal.put_marked-requires
put_marked-requires c = rw (← c.is_there.ensures, c.if-is_there.true) at c.requires

pub returns-then-is_there : goal.returns-then-is_there
returns-then-is_there c = rw (← c.is_there.ensures, c.if-is_there.true) c.put_marked.ensures

pub returns : goal.returns
returns c = rw (← c.is_there.ensures, c.if-is_there.false) (record { end = omega arith; held = refl })
