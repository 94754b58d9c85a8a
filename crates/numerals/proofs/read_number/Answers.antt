-- By what the first byte is: a plus, or what it says of the sign.
use lib.Seq.{length-take-le}
use mathlib.Core.Path.{sym, ◌∙◌}
use native.Mathlib.Omega.{arith}
use Rattle.numerals.proofs.Sizing.{number-signed, number-plus, number_short, number-of-none, whole-number}
use Rattle.numerals.proofs.read_number.Goals as goal

pub returns-then-text-k : goal.returns-then-text-k
returns-then-text-k c =
    let a = c.args in
    let s = a.text.now in
    sym (number_short a.kind a.k s c.if-text-k.true)

pub returns-then-k-eq0 : goal.returns-then-k-eq0
returns-then-k-eq0 c =
    let a = c.args in
    let s = a.text.now in
    sym (number-of-none a.kind a.k s c.if-k-eq0.true)

pub returns-then-first-eq43 : goal.returns-then-first-eq43
returns-then-first-eq43 c =
    let a = c.args in
    let s = a.text.now in
    sym (number-plus a.kind a.k s (omega arith) (omega arith) c.if-first-eq43.true)

pub slice_bounds-sized-end-in-Bare : goal.slice_bounds-sized-end-in-Bare
slice_bounds-sized-end-in-Bare c = sym (length-take-le _ _ (omega arith))

pub returns-in-Minus : goal.returns-in-Minus
returns-in-Minus c =
    let m = c in
    let a = m.args in
    let s = a.text.now in
    c.sized.ensures
    ∙ sym (number-signed a.kind a.k s (omega arith) (omega arith) m.if-first-eq43.false ∙ rw (← m.sign_of.ensures, c.in-Minus.is))

pub returns-in-Bare : goal.returns-in-Bare
returns-in-Bare c =
    let m = c in
    let a = m.args in
    let s = a.text.now in
    c.sized-in-Bare.ensures
    ∙ sym (whole-number a.kind a.k s (omega arith) (omega arith) m.if-first-eq43.false (sym m.sign_of.ensures ∙ c.in-Bare.is))
