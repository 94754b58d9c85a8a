-- The word of the role that the table has for the run.
use mathlib.Core.Path.{sym, ◌∙◌}
use lib.ListN.{get_or}
use Rattle.words.proofs.parts.Words.{role-meant, rule-small}
use Rattle.words.proofs.parts.run_word.Goals as goal

pub rule_word-requires : goal.rule_word-requires
rule_word-requires c =
    let meant = c.role_meant-role.ensures ∙ role-meant c.step_of.ensures c.requires.kind_value.0 in
    rule-small c.in-Symbol.rule c.args.pair (get_or c.args.pattern.now c.args.part.start 0) c.args.part.length
    c.requires.next.some c.requires.kind_value.1 (sym meant ∙ c.in-Symbol.is)

pub returns-in-Literal : goal.returns-in-Literal
returns-in-Literal c =
    let meant = c.role_meant-role.ensures ∙ role-meant c.step_of.ensures c.requires.kind_value.0 in
    rw (← meant, c.in-Literal.is) c.times_word.ensures

pub returns-in-Symbol : goal.returns-in-Symbol
returns-in-Symbol c =
    let meant = c.role_meant-role.ensures ∙ role-meant c.step_of.ensures c.requires.kind_value.0 in
    rw (← meant, c.in-Symbol.is) c.rule_word.ensures
