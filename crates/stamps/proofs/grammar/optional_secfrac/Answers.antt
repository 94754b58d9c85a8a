-- The point, then its digits.
use borrow.Author.Tests.{eq-eqb, ne_eqb}
use Rattle.stamps.proofs.grammar.DateTimes.{no-point, none_read, digits-halt, digits-read}
use mathlib.Core.Path.{◌≡◌, sym, ap, ◌∙◌}
use mathlib.Core.List.{List}
use Prim.Native.Nat.{ℕ, ◌-◌, ◌+◌}
use native.Mathlib.Omega.{arith}
use lib.ListN.{length, take, drop, length-drop}
use lib.Seq.{take_all}
use Rattle.stamps.proofs.grammar.Fractions.{run_fits}
use Rattle.stamps.specs.Found.{fraction_by}
use Rattle.stamps.proofs.grammar.optional_secfrac.Goals as goal

rest_all : (at : ℕ) (s : List ℕ) → take (length s - at) (drop at s) ≡ drop at s
rest_all at s = take_all (length s - at) (drop at s) (rw length-drop (omega arith))

pub returns-then-text-at : goal.returns-then-text-at
returns-then-text-at c =
    let a = c.args in
    ap fraction_by (sym (none_read a.text.now a.at (no-point a.text.now a.at c.if-text-at.true)))

pub returns-then-text-at-ne46 : goal.returns-then-text-at-ne46
returns-then-text-at-ne46 c =
    let a = c.args in
    ap fraction_by (sym (none_read a.text.now a.at (ne_eqb _ 46 c.if-text-at-ne46.true)))

pub returns-then-found-eq0 : goal.returns-then-found-eq0
returns-then-found-eq0 c =
    let a = c.args in
    let e = rw (rest_all (a.at + 1) a.text.now) at c.fraction_digits-found.ensures in
    ap fraction_by (sym (digits-halt a.text.now a.at (eq-eqb _ 46 c.if-text-at-ne46.false) (omega (arith, e.1, c.if-found-eq0.true))))

pub overflow_add-result : goal.overflow_add-result
overflow_add-result c =
    let a = c.args in
    let e = rw (rest_all (a.at + 1) a.text.now) at c.fraction_digits-found.ensures in
    omega (arith, e.1, run_fits (drop (a.at + 1) a.text.now), length-drop (a.at + 1) a.text.now)

pub returns : goal.returns
returns c =
    let a = c.args in
    let e = rw (rest_all (a.at + 1) a.text.now) at c.fraction_digits-found.ensures in
    rw (e.0, e.1) (ap fraction_by (sym (digits-read a.text.now a.at (eq-eqb _ 46 c.if-text-at-ne46.false) (λ q. c.if-found-eq0.false (omega (arith, e.1, q))))))
