-- Between two powers of ten all numbers have as many digits.
use Prim.Native.Nat.{ℕ, zero, suc, ◌+◌, ◌*◌, ◌/◌, ◌^◌, ◌≤◌, ◌<◌, max}
use mathlib.Core.Path.{◌≡◌, refl, sym, ap, ◌∙◌}
use native.Mathlib.Nat.{pow-suc}
use native.Mathlib.Omega.{arith}
use Rattle.laws.proofs.Digits.{width_small, width-turn}
use Rattle.meaning.specs.Bytes.{width}
use Rattle.digits.proofs.padded.width.Goals as goal

power-some : (k : ℕ) → 0 < 10 ^ k
power-some zero = omega arith
power-some (suc k) = omega (arith, pow-suc 10 k, power-some k)

width-between : (k n : ℕ) → 10 ^ k ≤ n → n < 10 * 10 ^ k → width n ≡ suc k
width-between zero n a b = width_small n (omega arith)
width-between (suc k) n a b =
    let s = pow-suc 10 k in
    let t : 10 ≤ n = omega (arith, s, power-some k) in
    width-turn n t ∙ ap suc (width-between k (n / 10) (omega (arith, s)) (omega (arith, s)))

at-least-one : (n : ℕ) → width (max n 1) ≡ width n
at-least-one zero = width_small 1 (omega arith) ∙ sym (width_small 0 (omega arith))
at-least-one (suc n) = let e : max (suc n) 1 ≡ suc n = omega arith in ap width e

pub returns : goal.returns
returns c =
    let e = ap width c.max.ensures in
    omega (arith, width-between c.ilog10.result c.max.result c.ilog10.ensures.power_le c.ilog10.ensures.next_power_gt, at-least-one c.args.n, e)
