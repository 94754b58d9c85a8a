-- By the byte that stands there.
use mathlib.Core.Path.{◌≡◌, sym, ◌∙◌}
use Prim.Native.Nat.{◌+◌, ◌<◌}
use native.Mathlib.Nat.{add-zero}
use native.Mathlib.Omega.{arith}
use borrow.Author.Tests.{ne_eqb}
use lib.ListN.{length, get_or, drop, length-drop}
use Rattle.parse.proofs.cursor.Moves.{left_by, same_ok, skipped-end, skipped-past}
use Rattle.parse.proofs.zones.Zoning.{sign-here, sign-skipped, not_z}
use Rattle.parse.proofs.zones.zone_sign.Goals as goal

pub returns-in_err-next : goal.returns-in_err-next
returns-in_err-next c =
    let a = c.args in
    rw (sign-skipped a.utc a.text.now a.cursor.at (sym c.skip.ensures ∙ c.in_err-next.was)) (left_by c.from_residual.ensures.1)

pub bounds-text-cursor : goal.bounds-text-cursor
bounds-text-cursor c =
    let a = c.args in
    let s = drop a.cursor.at a.text.now in
    omega (arith, skipped-end a.cursor.at 1 s (sym c.skip.ensures ∙ c.in_ok-next.was), length-drop a.cursor.at a.text.now)

pub returns-in-90 : goal.returns-in-90
returns-in-90 c =
    let a = c.args in
    let at = a.cursor.at in
    let s = drop at a.text.now in
    let was = sym c.skip.ensures ∙ c.in_ok-next.was in
    let end = skipped-end at 1 s was in
    let here : at < length a.text.now = omega (arith, end.1, length-drop at a.text.now) in
    let next : c.in_ok-next.next ≡ record { at = at + 1 } = same_ok (sym was ∙ skipped-past at 1 s end.1) in
    rw (next, sign-here a.utc a.text.now at here, c.in-90.is, c.if-utc.true)

pub returns-in-43 : goal.returns-in-43
returns-in-43 c =
    let a = c.args in
    let at = a.cursor.at in
    let s = drop at a.text.now in
    let was = sym c.skip.ensures ∙ c.in_ok-next.was in
    let end = skipped-end at 1 s was in
    let here : at < length a.text.now = omega (arith, end.1, length-drop at a.text.now) in
    let next : c.in_ok-next.next ≡ record { at = at + 1 } = same_ok (sym was ∙ skipped-past at 1 s end.1) in
    rw (next, sign-here a.utc a.text.now at here, c.in-43.is, not_z a.utc)

pub returns-in-45 : goal.returns-in-45
returns-in-45 c =
    let a = c.args in
    let at = a.cursor.at in
    let s = drop at a.text.now in
    let was = sym c.skip.ensures ∙ c.in_ok-next.was in
    let end = skipped-end at 1 s was in
    let here : at < length a.text.now = omega (arith, end.1, length-drop at a.text.now) in
    let next : c.in_ok-next.next ≡ record { at = at + 1 } = same_ok (sym was ∙ skipped-past at 1 s end.1) in
    rw (next, sign-here a.utc a.text.now at here, c.in-45.is, not_z a.utc)

pub returns-in_default : goal.returns-in_default
returns-in_default c =
    let a = c.args in
    let at = a.cursor.at in
    let end = skipped-end at 1 (drop at a.text.now) (sym c.skip.ensures ∙ c.in_ok-next.was) in
    let here : at < length a.text.now = omega (arith, end.1, length-drop at a.text.now) in
    rw (sign-here a.utc a.text.now at here, c.in-90.is, c.if-utc.false, add-zero)

pub returns-in_default-2 : goal.returns-in_default-2
returns-in_default-2 c =
    let a = c.args in
    let at = a.cursor.at in
    let end = skipped-end at 1 (drop at a.text.now) (sym c.skip.ensures ∙ c.in_ok-next.was) in
    let here : at < length a.text.now = omega (arith, end.1, length-drop at a.text.now) in
    let b = get_or a.text.now at 0 in
    rw (
      sign-here a.utc a.text.now at here,
      ne_eqb b 90 (λ e. omega (arith, e)),
      ne_eqb b 43 (λ e. omega (arith, e)),
      ne_eqb b 45 (λ e. omega (arith, e)),
      not_z a.utc,
      add-zero,
    )
