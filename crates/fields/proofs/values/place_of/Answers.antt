-- Each arm is its list's place.
use native.Mathlib.Omega.{arith}
use Rattle.laws.proofs.Fields.{allowed}
use Rattle.fields.proofs.values.place_of.Goals as goal

pub overflow_sub-month : goal.overflow_sub-month
overflow_sub-month c = omega (arith, allowed c.args.f c.requires)

pub second_of_day-second-requires : goal.second_of_day-second-requires
second_of_day-second-requires c = omega (arith, allowed c.args.f c.requires)
