-- By the computed test of each day.
use Rattle.calendar.proofs.months.Finding.{in-month}
use borrow.Author.Rules.{rules}
use Rattle.calendar.proofs.months.month_of.Goals as goal

pub returns : goal.returns
returns c =
    let a = c.args in
    in-month a.leap a.past c.stretched.result (search rules) c.stretched.ensures
