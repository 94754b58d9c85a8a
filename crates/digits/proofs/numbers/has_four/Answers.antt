-- The padding or the number has four digits, and neither has more.
use Prim.Native.Nat.{max}
use mathlib.Core.Path.{sym, ◌∙◌}
use native.Mathlib.Omega.{arith}
use borrow.Author.Tests.{eq-eqb, ne_eqb, le-ltb, lt-leb}
use Rattle.laws.proofs.Digits.{width-at-most}
use Rattle.meaning.specs.Bytes.{width}
use Rattle.digits.proofs.numbers.Laws.{five-at-least, four-of}
use Rattle.digits.proofs.numbers.has_four.Goals as goal
use Rattle.digits.proofs.numbers.has_four.Goals.{then-k-le4, else-k-le4}

pub returns-then-k-eq4 : goal.returns-then-k-eq4
returns-then-k-eq4 c =
    let a = c.args in
    eq-eqb a.k 4 c.if-k-eq4.true
    ∙ sym (eq-eqb (max a.k (width a.n)) 4 (omega (arith, c.if-k-eq4.true, width-at-most 4 a.n (omega arith) (omega arith))))

pub returns-else-k-eq4 : goal.returns-else-k-eq4
returns-else-k-eq4 c =
    let a = c.args in
    four-of a.k a.n (omega (arith, c.if-k-eq4.false)) (omega arith)

pub returns-else-n-lt10000 : goal.returns-else-n-lt10000
returns-else-n-lt10000 c =
    let a = c.args in
    elim c.if-k-le4.branch [
      | then-k-le4 w ↦
          w.t-4-is ∙ le-ltb a.n 10000 (omega arith)
          ∙ sym (ne_eqb (max a.k (width a.n)) 4 (λ four. omega (arith, four, five-at-least a.n (omega arith))))
      | else-k-le4 w ↦ w.t-4-is ∙ lt-leb a.k 4 (omega arith) ∙ sym (ne_eqb (max a.k (width a.n)) 4 (λ four. omega (arith, four)))
    ]
