-- Each arm is its quantity, within the bounds of an allowed record.
use native.Mathlib.Omega.{arith}
use Rattle.laws.proofs.Fields.{allowed}
use Rattle.fields.proofs.values.quantity_of.Goals as goal

pub overflow_sub-result : goal.overflow_sub-result
overflow_sub-result c = omega (arith, allowed c.args.f c.requires)

pub overflow_add-result-in-Weekday : goal.overflow_add-result-in-Weekday
overflow_add-result-in-Weekday c = omega (arith, allowed c.args.f c.requires)

pub overflow_add-result-in-WeekdayFromMonday : goal.overflow_add-result-in-WeekdayFromMonday
overflow_add-result-in-WeekdayFromMonday c = omega (arith, allowed c.args.f c.requires)

pub second_of_day-requires : goal.second_of_day-requires
second_of_day-requires c = omega (arith, allowed c.args.f c.requires)

pub second_of_day-requires-in-Hour0To11 : goal.second_of_day-requires-in-Hour0To11
second_of_day-requires-in-Hour0To11 c = omega (arith, allowed c.args.f c.requires)

pub second_of_day-requires-in-Hour0To23 : goal.second_of_day-requires-in-Hour0To23
second_of_day-requires-in-Hour0To23 c = omega (arith, allowed c.args.f c.requires)

pub second_of_day-requires-in-Hour1To24 : goal.second_of_day-requires-in-Hour1To24
second_of_day-requires-in-Hour1To24 c = omega (arith, allowed c.args.f c.requires)

pub second_of_day-requires-in-Minute : goal.second_of_day-requires-in-Minute
second_of_day-requires-in-Minute c = omega (arith, allowed c.args.f c.requires)

pub second_of_day-requires-in-Second : goal.second_of_day-requires-in-Second
second_of_day-requires-in-Second c = omega (arith, allowed c.args.f c.requires)
