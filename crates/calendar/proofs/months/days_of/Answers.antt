-- The days of so many months, before March and from it on.
use native.Mathlib.Omega.{arith}
use Rattle.calendar.proofs.months.Finding.{later}
use Rattle.calendar.proofs.months.days_of.Goals as goal

pub returns : goal.returns
returns c =
    let a = c.args in
    rw c.lost_days.ensures (later a.leap a.months (omega arith) c.if-months-lt2.false)
