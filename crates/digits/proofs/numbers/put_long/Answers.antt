-- Where it has four digits, they are the number.
use mathlib.Core.Path.{sym, ◌∙◌}
use Rattle.laws.proofs.Digits.{length_digits}
use Rattle.digits.proofs.numbers.Laws.{four-digits, four_below}
use Rattle.digits.proofs.numbers.put_long.Goals as goal

pub put_four-requires : goal.put_four-requires
put_four-requires c =
    let m = c in
    let four = sym c.has_four.ensures ∙ c.if-has_four.true in
    (four_below m.args.k m.args.n four, rw (four-digits m.args.k m.args.n four, length_digits 4 m.args.n) at m.requires)

pub returns-then-has_four : goal.returns-then-has_four
returns-then-has_four c =
    let m = c in
    let four = sym c.has_four.ensures ∙ c.if-has_four.true in
    rw (four-digits m.args.k m.args.n four) c.put_four.ensures
