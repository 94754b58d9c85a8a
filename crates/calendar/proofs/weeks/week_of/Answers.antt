-- The Thursday is in the year before, in this one or in the next.
use mathlib.Core.Path.{◌≡◌, ap, ◌∙◌}
use Prim.Native.Nat.{suc, ◌+◌, ◌-◌, ◌<◌}
use native.Mathlib.Omega.{arith}
use Rattle.calendar.proofs.weeks.Thursdays.{sevenths, here, next, before}
use Rattle.laws.proofs.CalendarYears.{year-short, year-long}
use Rattle.meaning.specs.Calendar.{leap, year_length}
use borrow.Author.Rules.{rules}
use Rattle.calendar.proofs.weeks.week_of.Goals as goal

module _ (c : goal.After-year_length) where
  length-is : c.year_length.result ≡ year_length (leap c.args.place)
  length-is = c.year_length.ensures ∙ ap year_length c.is_leap.ensures

pub overflow_add-ahead : goal.overflow_add-ahead
overflow_add-ahead c = omega (arith, year-short c.args.leap)

pub overflow_add-result : goal.overflow_add-result
overflow_add-result c =
    let a = c.args in
    omega (arith, length-is c, year-short (leap a.place), year-short a.leap)

pub overflow_sub-result : goal.overflow_sub-result
overflow_sub-result c =
    let a = c.args in
    omega (arith, length-is c, year-long (leap a.place))

pub returns-then-ahead-since : goal.returns-then-ahead-since
returns-then-ahead-since c =
    let a = c.args in
    rw (length-is c) (before a.place a.past a.since (omega arith) (omega arith) (omega arith) c.if-ahead-since.true)

pub overflow_mul-result : goal.overflow_mul-result
overflow_mul-result c = omega (arith, c.year_length-2.ensures, year-short c.args.leap)

pub returns-then-thursday-year_length : goal.returns-then-thursday-year_length
returns-then-thursday-year_length c =
    let a = c.args in
    let e : a.leap ≡ leap (suc a.place) = search rules in
    let i = rw (c.year_length-2.ensures, e) at c.if-thursday-year_length.true in
    rw (sevenths (a.past + 3 - a.since) (omega (arith, i, year-short (leap (suc a.place)))))
    (here a.place a.past a.since (omega arith) (omega arith) (omega arith) i)

pub returns : goal.returns
returns c =
    let a = c.args in
    let e : a.leap ≡ leap (suc a.place) = search rules in
    let i : a.past < year_length a.leap = search rules in
    next a.place a.past a.since (omega arith) (omega arith) (rw e at i) (omega arith) (rw (c.year_length-2.ensures, e) at c.if-thursday-year_length.false)
