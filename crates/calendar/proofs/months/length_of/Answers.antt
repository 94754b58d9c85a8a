-- A month ends where the next one begins.
use native.Mathlib.Omega.{arith}
use Rattle.calendar.proofs.months.Finding.{month-ends}
use Rattle.calendar.proofs.months.length_of.Goals as goal

pub overflow_sub-result : goal.overflow_sub-result
overflow_sub-result c =
    omega (arith, month-ends c.args.leap c.args.month (omega arith) (omega arith))
