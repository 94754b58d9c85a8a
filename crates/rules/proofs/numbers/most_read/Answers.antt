-- By the edition, and whether it is a month.
use Rattle.meaning.specs.Reading.{most_read}
use Rattle.rules.proofs.numbers.Laws.{as-ruled-unless-month}
use Rattle.rules.proofs.numbers.most_read.Goals as goal

pub returns-in-First : goal.returns-in-First
unfolding most_read
returns-in-First c = rw c.in-First.is

pub returns-in-Month : goal.returns-in-Month
unfolding most_read
returns-in-Month c = rw (c.in-Second.is, c.in-Month.is)

pub returns-in_default : goal.returns-in_default
returns-in_default c =
    let a = c.args in
    rw (c.in-Second.is, as-ruled-unless-month a.quantity a.most c.in_default.not-Month)
