use mathlib.Core.List.{List}
use mathlib.Core.Path.{◌≡◌, sym}
use Prim.Native.Nat.{ℕ, suc, ◌-◌, ◌^◌, ◌≤◌, ◌<◌}
use native.Mathlib.Nat.{pow-le-pow_right}
use native.Mathlib.Omega.{arith}
use lib.ListN.{length, drop_of_length-le}
use Rattle.names.specs.Letters.{bytes_of}
use Rattle.names.proofs.letters.Laws.{few-turn}
use Rattle.names.proofs.letters.few_at.Goals as goal

few : (t : List ℕ) (i : ℕ) → length t - i < 7 → 256 ^ (length t - i) ≤ 256 ^ 6
few t i h = pow-le-pow_right {n = 256} (omega arith) {i = length t - i} {j = 6} (omega arith)

pub loop-i-init : goal.loop-i-init
unfolding bytes_of
loop-i-init c =
    let t = c.args.text.now in
    let e : length t - length t ≡ 0 = omega arith in
    (omega arith, rw e (omega arith), rw e (sym (drop_of_length-le t {i = length t} (omega arith))))

pub overflow_mul-number : goal.overflow_mul-number
overflow_mul-number c = omega (arith, few c.args.text.now c.loop-i.i (omega arith))

pub overflow_add-number : goal.overflow_add-number
overflow_add-number c = omega (arith, c.type_inv.text (c.loop-i.i - 1), few c.args.text.now c.loop-i.i (omega arith))

pub loop-i-preserved : goal.loop-i-preserved
loop-i-preserved c =
    let L = c.loop-i in
    let t = c.args.text.now in
    let e : L.i ≡ suc (L.i - 1) = omega arith in
    let turn =
    few-turn t (L.i - 1) L.number (omega arith) (omega (arith, c.type_inv.text (L.i - 1))) (rw (← e) L.invariant.1)
    (rw (← e) L.invariant.2) in
    (omega arith, rw c.wide.ensures turn.0, rw c.wide.ensures turn.1)

pub returns : goal.returns
returns c =
    let e : c.loop-i.i ≡ c.args.at = omega arith in
    rw e at c.loop-i.invariant.2
