-- Each arm is its quantity, within the bounds of an allowed record.
use native.Mathlib.Omega.{arith}
use Rattle.laws.proofs.Fields.{allowed}
use Rattle.meaning.specs.Writing.{quantity_of}
use Rattle.format.proofs.step.short_number.Goals as goal

pub second_of_day-requires : goal.second_of_day-requires
second_of_day-requires c = omega (arith, allowed c.args.f c.requires)

pub second_of_day-requires-in-Minute : goal.second_of_day-requires-in-Minute
second_of_day-requires-in-Minute c = omega (arith, allowed c.args.f c.requires)

pub second_of_day-requires-in-Second : goal.second_of_day-requires-in-Second
second_of_day-requires-in-Second c = omega (arith, allowed c.args.f c.requires)

pub returns-in-Month : goal.returns-in-Month
unfolding quantity_of
returns-in-Month c = rw c.in-Month.is

pub returns-in-Day : goal.returns-in-Day
unfolding quantity_of
returns-in-Day c = rw c.in-Day.is

pub returns-in-Hour : goal.returns-in-Hour
unfolding quantity_of
returns-in-Hour c = rw (c.in-Hour.is, c.second_of_day.ensures)

pub returns-in-Minute : goal.returns-in-Minute
unfolding quantity_of
returns-in-Minute c = rw (c.in-Minute.is, c.second_of_day-in-Minute.ensures)

pub returns-in-Second : goal.returns-in-Second
unfolding quantity_of
returns-in-Second c = rw (c.in-Second.is, c.second_of_day-in-Second.ensures)
