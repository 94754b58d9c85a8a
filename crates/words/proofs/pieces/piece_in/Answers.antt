-- By the code.
use mathlib.Core.Path.{refl, sym, ◌∙◌}
use native.Mathlib.Omega.{arith}
use Prim.Native.Nat.{◌<◌}
use Rattle.rules.specs.declared.short.Short.TheVariants.{Month, Day, Hour, Minute, Second}
use Rattle.words.specs.Fields.{code}
use Rattle.words.specs.Pieces.{shortly, yearly, pieces_of_code}
use Rattle.words.proofs.pieces.Codes.{of_code, first-apart, later-byte}
use Rattle.words.proofs.pieces.piece_in.Goals as goal

pub returns-then-k-eq0 : goal.returns-then-k-eq0
returns-then-k-eq0 c = rw c.if-k-eq0.true c.first_piece.ensures

pub returns-in-10 : goal.returns-in-10
unfolding pieces_of_code
returns-in-10 c = rw (of_code _ (sym c.code.ensures ∙ c.in-10.is)) (c.of_three.ensures ∙ first-apart (shortly Hour 2) (shortly Minute 2) (shortly Second 2) c.args.w c.args.k c.if-k-eq0.false)

pub returns-in-15 : goal.returns-in-15
unfolding pieces_of_code
returns-in-15 c = rw (of_code _ (sym c.code.ensures ∙ c.in-15.is)) (c.of_three-in-15.ensures ∙ first-apart (yearly 4) (shortly Month 2) (shortly Day 2) c.args.w c.args.k c.if-k-eq0.false)

pub returns-in_default : goal.returns-in_default
returns-in_default c = let w = c.args.w in
    let k = c.args.k in
    let n = c.if-k-eq0.false in
    let later : 0 < k = omega arith in
    let code_is = c.code.ensures in
    let byte = later-byte w k later (code w) (λ e. omega (arith, code_is ∙ e)) (λ e. omega (arith, code_is ∙ e)) (rw (of_code w refl) at c.requires) in
    rw (of_code w refl) (c.once.ensures ∙ rw c.last_byte.ensures (sym byte))
