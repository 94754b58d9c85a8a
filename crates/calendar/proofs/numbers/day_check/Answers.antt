-- A day past the month's last is none.
use mathlib.Core.Path.{◌≡◌, sym, ◌∙◌}
use native.Mathlib.Omega.{arith}
use borrow.Author.Tests.{ltb-true, ltb-false}
use lib.Dec.{ltb}
use Rattle.meaning.specs.Calendar.{leap, month_length}
use Rattle.calendar.proofs.numbers.FourDigits.{no-day, a-day}
use Rattle.calendar.proofs.numbers.day_check.Goals as goal

pub returns-then-is_past : goal.returns-then-is_past
returns-then-is_past c =
    let a = c.args in
    let past_by : c.is_past.result ≡ ltb (month_length (leap a.year) a.month) a.day = rw c.is_leap.ensures at c.is_past.ensures in
    no-day a.year a.month a.day (omega arith) (omega arith) (omega arith) (omega arith) (omega arith) (ltb-true _ _ (sym past_by ∙ c.if-is_past.true))

pub returns : goal.returns
returns c =
    let a = c.args in
    let past_by : c.is_past.result ≡ ltb (month_length (leap a.year) a.month) a.day = rw c.is_leap.ensures at c.is_past.ensures in
    a-day a.year a.month a.day (omega arith) (omega arith) (omega arith) (omega arith) (omega arith) (ltb-false _ _ (sym past_by ∙ c.if-is_past.false))
