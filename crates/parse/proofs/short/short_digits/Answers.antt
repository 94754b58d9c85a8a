-- None, one by itself, or what follows it too.
use mathlib.Core.Path.{sym, ◌∙◌}
use native.Mathlib.Omega.{arith}
use borrow.Author.Tests.{ne_eqb}
use lib.ListN.{drop}
use lib.Seq.{drop-drop}
use Rattle.parse.specs.ShortReads.{short_digits}
use Rattle.parse.proofs.short.Taken.{first_small, first-within}
use Rattle.parse.proofs.short.short_digits.Goals as goal

pub returns-in_err-a : goal.returns-in_err-a
unfolding short_digits
returns-in_err-a c = rw (← c.digit_at.ensures, c.in_err-a.was) c.from_residual.ensures

pub returns-then-most-eq1 : goal.returns-then-most-eq1
unfolding short_digits
returns-then-most-eq1 c = rw (← c.digit_at.ensures, c.in_ok-a.was, c.if-most-eq1.true)

pub overflow_add-at : goal.overflow_add-at
overflow_add-at c = omega (arith, first-within c.args.at c.args.text.now (sym c.digit_at.ensures ∙ c.in_ok-a.was))

pub second_digit-requires : goal.second_digit-requires
second_digit-requires c = first_small (drop c.args.at c.args.text.now) (sym c.digit_at.ensures ∙ c.in_ok-a.was)

pub returns : goal.returns
unfolding short_digits
returns c =
    let a = c.args in
    rw (← c.digit_at.ensures, c.in_ok-a.was, ne_eqb a.most 1 c.if-most-eq1.false, drop-drop 1 a.at a.text.now) c.second_digit.ensures
