use mathlib.Core.Path.{◌≡◌, sym, ap, ◌∙◌}
use Prim.Native.Nat.{ℕ, ◌+◌, ◌-◌}
use native.Mathlib.Omega.{arith}
use Rattle.stamps.proofs.shape.Wrongs.{wrong-none, wrong_start, wrong-next, wrong-found}
use Rattle.stamps.proofs.shape.search.Goals as goal

pub loop-i-init : goal.loop-i-init
loop-i-init c =
    let a = c.args in
    (omega arith, wrong_start a.count a.shape a.at a.text.now)

pub returns-then-not-fits : goal.returns-then-not-fits
returns-then-not-fits c =
    let a = c.args in
    let L = c.loop-i in
    sym (wrong-found a.count a.shape a.at L.i a.text.now (omega arith) (sym c.fits.ensures ∙ c.if-not-fits.true)) ∙ L.invariant.1

pub loop-i-preserved : goal.loop-i-preserved
loop-i-preserved c =
    let a = c.args in
    let L = c.loop-i in
    (omega arith, wrong-next a.count a.shape a.at L.i a.text.now (omega arith) (sym c.fits.ensures ∙ c.if-not-fits.false) ∙ L.invariant.1)

pub returns : goal.returns
returns c =
    let a = c.args in
    let L = c.loop-i in
    let all : L.i ≡ a.count = omega arith in
    ap (λ (k : ℕ). a.at + k) (sym all) ∙ sym (wrong-none (a.count - L.i) (a.shape + L.i) (a.at + L.i) a.text.now (omega arith)) ∙ L.invariant.1
