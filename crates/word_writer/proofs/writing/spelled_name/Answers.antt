-- A weekday's number, or a month's.
use mathlib.Core.Path.{sym, ◌∙◌}
use native.Mathlib.Omega.{arith}
use Rattle.laws.proofs.Fields.{allowed}
use Rattle.word_writer.proofs.Names.{weekday-name, month-name}
use Rattle.word_writer.proofs.writing.spelled_name.Goals as goal

pub overflow_add-result : goal.overflow_add-result
overflow_add-result c = record { fits = omega (arith, (allowed c.args.f c.requires.0).wday) }

pub returns-then-is_weekday : goal.returns-then-is_weekday
returns-then-is_weekday c = sym (weekday-name c.args.f c.args.w (sym c.is_weekday.ensures ∙ c.if-is_weekday.true))

pub overflow_sub-result : goal.overflow_sub-result
overflow_sub-result c = (allowed c.args.f c.requires.0).month.0

pub returns : goal.returns
returns c =
    sym (month-name c.args.f c.args.w c.requires.1 (sym c.is_weekday.ensures ∙ c.if-is_weekday.false))
