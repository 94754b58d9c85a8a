-- The bytes themselves, or the text of their rule.
use lib.ListN.{length-replicate}
use Rattle.meaning.specs.Writing.{step_text}
use Rattle.format.proofs.step.put_run.Goals as goal

pub put_times-requires : goal.put_times-requires
unfolding step_text
put_times-requires c = rw length-replicate at (rw c.in-Literal.is at c.requires.count_in_bounds)

pub format_rule-requires-clause-f_in_bounds : goal.format_rule-requires-clause-f_in_bounds
unfolding step_text
format_rule-requires-clause-f_in_bounds c = rw c.in-Symbol.is at c.requires.count_in_bounds

pub returns-in-Literal : goal.returns-in-Literal
unfolding step_text
returns-in-Literal c = rw c.in-Literal.is c.put_times.ensures

pub returns-in-Symbol : goal.returns-in-Symbol
unfolding step_text
returns-in-Symbol c = rw c.in-Symbol.is c.format_rule.ensures
