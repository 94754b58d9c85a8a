-- Each kind of step, from what it relies on.
use lib.ListN.{length-replicate}
use native.Mathlib.Omega.{arith}
use Rattle.format.proofs.step.Texts.{open-text, year-text}
use Rattle.meaning.specs.Writing.{rule_text, step_text}
use Rattle.pattern.proofs.parts.Walks.{rest_all}
use Rattle.format.proofs.lengths.step_length.Goals as goal

-- the places of a quoted part, and of an unclosed one
pub slice_bounds-unescaped_length-start : goal.slice_bounds-unescaped_length-start
slice_bounds-unescaped_length-start c = omega (arith, rw c.in-Quoted.is at c.requires.held)

pub slice_bounds-unescaped_length-end : goal.slice_bounds-unescaped_length-end
slice_bounds-unescaped_length-end c = omega (arith, rw c.in-Quoted.is at c.requires.held)

pub slice_bounds-open_length-start : goal.slice_bounds-open_length-start
slice_bounds-open_length-start c = omega (arith, (rw c.in-Open.is at c.requires.held).0)

pub open_length-requires : goal.open_length-requires
open_length-requires c =
    rw (rest_all c.in-Open.from c.args.pattern.now) (rw c.in-Open.is at c.requires.held).1

pub rule_length-requires-clause-f_len_bound : goal.rule_length-requires-clause-f_len_bound
unfolding step_text rule_text
rule_length-requires-clause-f_len_bound c = rw year-text at (rw c.in-Year.is at c.requires.step_len_bound)

pub rule_length-requires-in-MonthAbbreviated-clause-f_len_bound : goal.rule_length-requires-in-MonthAbbreviated-clause-f_len_bound
unfolding step_text
rule_length-requires-in-MonthAbbreviated-clause-f_len_bound c = rw c.in-MonthAbbreviated.is at c.requires.step_len_bound

pub rule_length-requires-in-MonthWide-clause-f_len_bound : goal.rule_length-requires-in-MonthWide-clause-f_len_bound
unfolding step_text
rule_length-requires-in-MonthWide-clause-f_len_bound c = rw c.in-MonthWide.is at c.requires.step_len_bound

pub rule_length-requires-in-WdayWide-clause-f_len_bound : goal.rule_length-requires-in-WdayWide-clause-f_len_bound
unfolding step_text
rule_length-requires-in-WdayWide-clause-f_len_bound c = rw c.in-WdayWide.is at c.requires.step_len_bound

pub rule_length-requires-in-Symbol-clause-f_len_bound : goal.rule_length-requires-in-Symbol-clause-f_len_bound
unfolding step_text
rule_length-requires-in-Symbol-clause-f_len_bound c = rw (c.in-Run.is, c.in-Symbol.is) at c.requires.step_len_bound

pub returns-in-Times : goal.returns-in-Times
unfolding step_text
returns-in-Times c = rw (c.in-Times.is, length-replicate)

pub returns-in-Quoted : goal.returns-in-Quoted
unfolding step_text
returns-in-Quoted c = rw c.in-Quoted.is c.unescaped_length.ensures

pub returns-in-Open : goal.returns-in-Open
returns-in-Open c =
    rw (c.in-Open.is, open-text) (rw (rest_all c.in-Open.from c.args.pattern.now) at c.open_length.ensures)

pub returns-in-Short : goal.returns-in-Short
unfolding step_text rule_text
returns-in-Short c = rw (c.in-Short.is, ← c.short_number.ensures) c.padded_length.ensures

pub returns-in-Year : goal.returns-in-Year
unfolding step_text rule_text
returns-in-Year c = rw (c.in-Year.is, year-text) c.rule_length.ensures

pub returns-in-MonthAbbreviated : goal.returns-in-MonthAbbreviated
unfolding step_text
returns-in-MonthAbbreviated c = rw c.in-MonthAbbreviated.is c.rule_length-in-MonthAbbreviated.ensures

pub returns-in-MonthWide : goal.returns-in-MonthWide
unfolding step_text
returns-in-MonthWide c = rw c.in-MonthWide.is c.rule_length-in-MonthWide.ensures

pub returns-in-WdayWide : goal.returns-in-WdayWide
unfolding step_text
returns-in-WdayWide c = rw c.in-WdayWide.is c.rule_length-in-WdayWide.ensures

pub returns-in-Literal : goal.returns-in-Literal
unfolding step_text
returns-in-Literal c = rw (c.in-Run.is, c.in-Literal.is, length-replicate)

pub returns-in-Symbol : goal.returns-in-Symbol
unfolding step_text
returns-in-Symbol c = rw (c.in-Run.is, c.in-Symbol.is) c.rule_length-in-Symbol.ensures
