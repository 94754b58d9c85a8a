-- Each code by itself.
use borrow.Author.Tests.{ne_eqb}
use mathlib.Core.Path.{sym, ◌∙◌}
use native.Mathlib.Omega.{arith}
use Rattle.words.specs.Fields.{code, slot}
use Rattle.word_writer.proofs.writing.is_quick.Goals as goal

pub returns-then-slot-eq4 : goal.returns-then-slot-eq4
returns-then-slot-eq4 c = rw ((sym c.code.ensures ∙ c.in-9.is), sym c.slot.ensures.0 ∙ c.if-slot-eq4.true)

pub returns-in-1 : goal.returns-in-1
returns-in-1 c = rw (sym c.code.ensures ∙ c.in-1.is)

pub returns-in-3 : goal.returns-in-3
returns-in-3 c = rw (sym c.code.ensures ∙ c.in-3.is)

pub returns-in-4 : goal.returns-in-4
returns-in-4 c = rw (sym c.code.ensures ∙ c.in-4.is)

pub returns-else-slot-eq4 : goal.returns-else-slot-eq4
returns-else-slot-eq4 c =
    rw ((sym c.code.ensures ∙ c.in-9.is), ne_eqb (slot c.args.w) 4 (λ e. c.if-slot-eq4.false (c.slot.ensures.0 ∙ e)))
    (ne_eqb c.slot.result 4 c.if-slot-eq4.false)

pub returns-in-10 : goal.returns-in-10
returns-in-10 c = rw (sym c.code.ensures ∙ c.in-10.is)

pub returns-in-15 : goal.returns-in-15
returns-in-15 c = rw (sym c.code.ensures ∙ c.in-15.is)

pub returns-in_default : goal.returns-in_default
returns-in_default c =
    simp (
      ne_eqb (code c.args.w) 1 (omega arith),
      ne_eqb (code c.args.w) 3 (omega arith),
      ne_eqb (code c.args.w) 4 (omega arith),
      ne_eqb (code c.args.w) 9 (omega arith),
      ne_eqb (code c.args.w) 10 (omega arith),
      ne_eqb (code c.args.w) 15 (omega arith),
    )
