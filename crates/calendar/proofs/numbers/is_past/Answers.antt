-- Every month has 28 days.
use Prim.Native.Nat.{suc, ◌-◌, ◌≤◌}
use borrow.Author.Tests.{le-ltb}
use mathlib.Core.Path.{◌≡◌, sym, ◌∙◌}
use native.Mathlib.Omega.{arith}
use Rattle.laws.proofs.CalendarMonths.{month-long}
use Rattle.meaning.specs.Calendar.{month_length}
use Rattle.calendar.proofs.numbers.is_past.Goals as goal

pub returns-else-day-gt28 : goal.returns-else-day-gt28
returns-else-day-gt28 c =
    let a = c.args in
    let e : suc (a.month - 1) ≡ a.month = omega arith in
    let long : 28 ≤ month_length a.leap a.month = rw e at (month-long a.leap (a.month - 1) (omega arith)) in
    le-ltb 28 a.day (omega arith) ∙ sym (le-ltb (month_length a.leap a.month) a.day (omega arith))
