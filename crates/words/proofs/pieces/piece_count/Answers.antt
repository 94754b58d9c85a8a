-- By the code.
use mathlib.Core.Path.{refl, sym, ◌∙◌}
use native.Mathlib.Omega.{arith}
use Rattle.words.specs.Fields.{code}
use Rattle.words.specs.Pieces.{pieces_of_code}
use Rattle.words.proofs.pieces.Codes.{of_code, of_none}
use Rattle.words.proofs.pieces.piece_count.Goals as goal

pub returns-in-1 : goal.returns-in-1
unfolding pieces_of_code
returns-in-1 c = rw (of_code _ (sym c.code.ensures ∙ c.in-1.is)) (refl, omega arith)

pub returns-in-3 : goal.returns-in-3
unfolding pieces_of_code
returns-in-3 c = rw (of_code _ (sym c.code.ensures ∙ c.in-3.is)) (omega (arith, c.behind_count-behind.ensures.0), omega (arith, c.behind_count-behind.ensures.1))

pub returns-in-4 : goal.returns-in-4
unfolding pieces_of_code
returns-in-4 c = rw (of_code _ (sym c.code.ensures ∙ c.in-4.is)) (omega (arith, c.behind_count-behind.ensures.0), omega (arith, c.behind_count-behind.ensures.1))

pub returns-in-9 : goal.returns-in-9
unfolding pieces_of_code
returns-in-9 c = rw (of_code _ (sym c.code.ensures ∙ c.in-9.is)) (omega (arith, c.behind_count-behind.ensures.0), omega (arith, c.behind_count-behind.ensures.1))

pub returns-in-10 : goal.returns-in-10
unfolding pieces_of_code
returns-in-10 c = rw (of_code _ (sym c.code.ensures ∙ c.in-10.is)) (omega (arith, c.behind_count-behind.ensures.0), omega (arith, c.behind_count-behind.ensures.1))

pub returns-in-15 : goal.returns-in-15
unfolding pieces_of_code
returns-in-15 c = rw (of_code _ (sym c.code.ensures ∙ c.in-15.is)) (omega (arith, c.behind_count-behind.ensures.0), omega (arith, c.behind_count-behind.ensures.1))

pub returns-in-22 : goal.returns-in-22
unfolding pieces_of_code
returns-in-22 c = rw (of_code _ (sym c.code.ensures ∙ c.in-22.is)) (omega (arith, c.behind_count-behind.ensures.0), omega (arith, c.behind_count-behind.ensures.1))

pub returns-in-29 : goal.returns-in-29
unfolding pieces_of_code
returns-in-29 c = rw (of_code _ (sym c.code.ensures ∙ c.in-29.is)) (refl, omega arith)

pub returns-in-30 : goal.returns-in-30
unfolding pieces_of_code
returns-in-30 c = rw (of_code _ (sym c.code.ensures ∙ c.in-30.is)) (refl, omega arith)

pub returns-in-31 : goal.returns-in-31
unfolding pieces_of_code
returns-in-31 c = rw (of_code _ (sym c.code.ensures ∙ c.in-31.is)) (refl, omega arith)

pub returns-in_default : goal.returns-in_default
unfolding pieces_of_code
returns-in_default c = rw (of_code _ refl, of_none c.args.w (code c.args.w) (λ e. omega (arith, c.code.ensures ∙ e)) (λ e. omega (arith, c.code.ensures ∙ e)) (λ e. omega (arith, c.code.ensures ∙ e)) (λ e. omega (arith, c.code.ensures ∙ e)) (λ e. omega (arith, c.code.ensures ∙ e)) (λ e. omega (arith, c.code.ensures ∙ e)) (λ e. omega (arith, c.code.ensures ∙ e)) (λ e. omega (arith, c.code.ensures ∙ e)) (λ e. omega (arith, c.code.ensures ∙ e)) (λ e. omega (arith, c.code.ensures ∙ e))) (refl, omega arith)
