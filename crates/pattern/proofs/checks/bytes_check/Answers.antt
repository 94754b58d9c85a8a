use mathlib.Core.Path.{sym, ap, ◌∙◌}
use Rattle.pattern.proofs.checks.Bytes.{refused_at, bytes_check-position}
use Rattle.pattern.proofs.checks.Checks.{long-pattern}
use Rattle.pattern.proofs.checks.bytes_check.Goals as goal

pub returns-then-n-gt256 : goal.returns-then-n-gt256
returns-then-n-gt256 c = sym (long-pattern c.args.pattern.now c.if-n-gt256.true)

pub returns-in-Some : goal.returns-in-Some
returns-in-Some c = sym (bytes_check-position c.args.pattern.now c.if-n-gt256.false ∙ ap refused_at (sym c.first_refused.ensures ∙ c.in-Some.is))

pub returns-in-None : goal.returns-in-None
returns-in-None c = sym (bytes_check-position c.args.pattern.now c.if-n-gt256.false ∙ ap refused_at (sym c.first_refused.ensures ∙ c.in-None.is))
