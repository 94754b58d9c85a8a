-- The last arm is where the book's definition has the list of table 16.
use mathlib.Core.Path.{◌≡◌, refl}
use native.Mathlib.Omega.{arith}
use lib.ListN.{length-drop}
use Rattle.meaning.specs.Names.{names}
use Rattle.names.proofs.rooms.rooms_of.Goals as goal

pub returns-in_default : goal.returns-in_default
unfolding names
returns-in_default c =
    let e : c.args.table ≡ 16 = omega arith in
    rw (c.at-in_default.ensures, e)
    (record { inside = omega arith; holds = λ row h. record { short = omega arith; inside = rw length-drop (omega arith); held = refl } })
