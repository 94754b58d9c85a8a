-- The sign, then five bytes by the shape.
use mathlib.Core.Path.{◌≡◌, refl, sym, ap, ◌∙◌}
use Prim.Native.Nat.{◌+◌}
use native.Mathlib.Omega.{arith}
use Rattle.stamps.proofs.grammar.DateTimes.{sign-halts, no_sign, shift-halts, shift-read, pair-taken}
use Rattle.stamps.specs.Found.{zone_by}
use Rattle.stamps.specs.Shape.{takes, first_wrong}
use Rattle.stamps.proofs.grammar.num_offset.Goals as goal

pub returns-then-text-at : goal.returns-then-text-at
returns-then-text-at c =
    let a = c.args in
    ap zone_by (sym (sign-halts a.text.now a.at (no_sign a.text.now a.at c.if-text-at.true)))

pub returns-then-not-is_sign : goal.returns-then-not-is_sign
returns-then-not-is_sign c =
    let a = c.args in
    ap zone_by (sym (sign-halts a.text.now a.at (sym c.is_sign.ensures ∙ c.if-not-is_sign.true)))

pub returns-then-wrong-at : goal.returns-then-wrong-at
returns-then-wrong-at c =
    let a = c.args in
    let w = c.first_wrong-wrong.ensures in
    let sign = sym c.is_sign.ensures ∙ c.if-not-is_sign.false in
    rw w (ap zone_by (sym (shift-halts a.text.now a.at sign (λ e. c.if-wrong-at.true (w ∙ e)))))

pub pair_at-requires : goal.pair_at-requires
unfolding takes
pair_at-requires c =
    let a = c.args in
    let taken : first_wrong 5 11 (a.at + 1) a.text.now ≡ a.at + 1 + 5 = omega (arith, c.first_wrong-wrong.ensures, c.if-wrong-at.false) in
    pair-taken 5 11 (a.at + 1) a.text.now taken 0 (a.at + 1) (omega arith) (omega arith) (λ b. refl) (λ b. refl)

pub pair_at-requires-2 : goal.pair_at-requires-2
unfolding takes
pair_at-requires-2 c =
    let a = c.args in
    let taken : first_wrong 5 11 (a.at + 1) a.text.now ≡ a.at + 1 + 5 = omega (arith, c.first_wrong-wrong.ensures, c.if-wrong-at.false) in
    pair-taken 5 11 (a.at + 1) a.text.now taken 3 (a.at + 4) (omega arith) (omega arith) (λ b. refl) (λ b. refl)

pub returns : goal.returns
returns c =
    let a = c.args in
    let sign = sym c.is_sign.ensures ∙ c.if-not-is_sign.false in
    let taken : first_wrong 5 11 (a.at + 1) a.text.now ≡ a.at + 6 = omega (arith, c.first_wrong-wrong.ensures, c.if-wrong-at.false) in
    rw (c.pair_at.ensures, c.pair_at-2.ensures) (ap zone_by (sym (shift-read a.text.now a.at sign taken)))
