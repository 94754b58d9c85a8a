-- By the place.
use mathlib.Core.Path.{◌∙◌, sym}
use native.Mathlib.Omega.{arith}
use Rattle.words.proofs.pieces.Codes.{behind-at, none-of-three}
use Rattle.words.specs.Pieces.{shortly}
use Rattle.words.proofs.pieces.of_three.Goals as goal

pub returns-in-1 : goal.returns-in-1
returns-in-1 c = rw c.in-1.is (c.once.ensures ∙ rw c.first_byte.ensures)

pub returns-in-2 : goal.returns-in-2
returns-in-2 c = rw c.in-2.is c.shortly.ensures

pub returns-in-3 : goal.returns-in-3
returns-in-3 c = rw c.in-3.is (c.once-in-3.ensures ∙ rw c.second_byte.ensures)

pub returns-in-4 : goal.returns-in-4
returns-in-4 c = rw c.in-4.is c.shortly-in-4.ensures

pub returns-in-5 : goal.returns-in-5
returns-in-5 c = rw c.in-5.is (c.once-in-5.ensures ∙ rw c.last_byte.ensures (sym (behind-at _)))

pub returns-in_default : goal.returns-in_default
returns-in_default c = c.once-in_default.ensures ∙ sym (none-of-three (shortly c.args.second 2) (shortly c.args.third 2) c.args.w c.args.k (λ e. omega (arith, e)) (λ e. omega (arith, e)) (λ e. omega (arith, e)) (λ e. omega (arith, e)) (λ e. omega (arith, e)))
