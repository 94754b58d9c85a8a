-- By the closed form.
use native.Mathlib.Omega.{arith}
use Rattle.laws.proofs.CalendarYears.{days-on}
use Rattle.calendar.proofs.line.before_year.Goals as goal

pub returns : goal.returns
returns c = omega (arith, days-on c.args.place)
