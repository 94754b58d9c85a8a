-- Each kind of step.
use lib.ListN.{drop, length-replicate}
use native.Mathlib.Omega.{arith}
use Rattle.meaning.specs.OpenedBooks.{book_in}
use Rattle.meaning.specs.Reading.{read_rule, read_step}
use Rattle.parse.proofs.step.StepReads.{year-read}
use Rattle.pattern.proofs.parts.Walks.{rest_all}
use Rattle.parse.proofs.step.parse_other.Goals as goal

pub slice_bounds-unescaped_length-count : goal.slice_bounds-unescaped_length-count
slice_bounds-unescaped_length-count c = omega (arith, rw c.in-Quoted.is at c.requires.held)

pub slice_bounds-unescaped_length-start : goal.slice_bounds-unescaped_length-start
slice_bounds-unescaped_length-start c = omega (arith, rw c.in-Quoted.is at c.requires.held)

pub slice_bounds-unescaped_length-end : goal.slice_bounds-unescaped_length-end
slice_bounds-unescaped_length-end c = omega (arith, rw c.in-Quoted.is at c.requires.held)

pub slice_bounds-unescaped_length-count-in-Open : goal.slice_bounds-unescaped_length-count-in-Open
slice_bounds-unescaped_length-count-in-Open c = omega (arith, rw c.in-Open.is at c.requires.held)

pub slice_bounds-unescaped_length-start-in-Open : goal.slice_bounds-unescaped_length-start-in-Open
slice_bounds-unescaped_length-start-in-Open c = omega (arith, rw c.in-Open.is at c.requires.held)

pub returns-in-Times : goal.returns-in-Times
unfolding read_step
returns-in-Times c = rw (c.in-Times.is, length-replicate) c.pass.ensures

pub returns-in-Quoted : goal.returns-in-Quoted
unfolding read_step
returns-in-Quoted c = rw (c.in-Quoted.is, ← c.unescaped_length-k.ensures) c.pass-in-Quoted.ensures

pub returns-in-Open : goal.returns-in-Open
unfolding read_step
returns-in-Open c =
    let p = c.args.pattern.now in
    rw (c.in-Open.is, ← rest_all c.in-Open.from p, ← c.unescaped_length-k-in-Open.ensures) c.pass-in-Open.ensures

pub returns-in-Short : goal.returns-in-Short
unfolding read_step
returns-in-Short c = rw c.in-Short.is (rw c.short_rule.ensures at c.parse_rule.ensures)

pub returns-in-Year : goal.returns-in-Year
unfolding read_step
returns-in-Year c =
    let a = c.args in
    rw (c.in-Year.is, year-read a.edition (book_in a.book.now) a.current_year c.in-Year.count (drop a.cursor.at a.text.now)) c.parse_year.ensures

pub returns-in-MonthAbbreviated : goal.returns-in-MonthAbbreviated
unfolding read_step read_rule
returns-in-MonthAbbreviated c = rw c.in-MonthAbbreviated.is c.parse_name.ensures

pub returns-in-MonthWide : goal.returns-in-MonthWide
unfolding read_step read_rule
returns-in-MonthWide c = rw c.in-MonthWide.is c.parse_name-in-MonthWide.ensures

pub returns-in-WdayWide : goal.returns-in-WdayWide
unfolding read_step read_rule
returns-in-WdayWide c = rw c.in-WdayWide.is c.parse_name-in-WdayWide.ensures

pub returns-in-Literal : goal.returns-in-Literal
unfolding read_step
returns-in-Literal c = rw (c.in-Run.is, c.in-Literal.is, length-replicate) c.pass-in-Literal.ensures

pub returns-in-Symbol : goal.returns-in-Symbol
unfolding read_step
returns-in-Symbol c = rw (c.in-Run.is, c.in-Symbol.is) c.parse_rule-in-Symbol.ensures
