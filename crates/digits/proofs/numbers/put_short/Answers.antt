-- One digit or two are their number.
use mathlib.Core.Logic.{◌⊎◌, inl, inr}
use Prim.Native.Nat.{◌≤◌}
use native.Mathlib.Omega.{arith}
use Rattle.laws.proofs.Digits.{length_digits, length-num, num-one, num-two, width-at-least}
use Rattle.digits.proofs.numbers.put_short.Goals.{then-k-lt2+else-n-lt10, else-k-lt2}
use Rattle.digits.proofs.numbers.put_short.Goals as goal

pub put_byte-requires : goal.put_byte-requires
put_byte-requires c =
    let m = c in
    omega (arith, length-num m.args.k m.args.n, width-at-least m.args.n)

pub returns-then-n-lt10 : goal.returns-then-n-lt10
returns-then-n-lt10 c =
    let m = c in
    rw (num-one m.args.k m.args.n (omega arith) (omega arith)) c.put_byte.ensures

pub put_two-requires : goal.put_two-requires
put_two-requires c =
    let a = c in
    let two : (10 ≤ c.args.n) ⊎ (2 ≤ c.args.k) = elim c.if-k-lt2.branch [ then-k-lt2+else-n-lt10 w ↦ inl (omega arith) | else-k-lt2 w ↦ inr (omega arith) ] in
    let room = rw (num-two a.args.k a.args.n a.requires.1 a.requires.0 two) at a.requires.2 in
    (a.requires.0, omega (arith, room, length_digits 2 a.args.n))

pub returns : goal.returns
returns c =
    let m = c in
    let a = m in
    let two : (10 ≤ c.args.n) ⊎ (2 ≤ c.args.k) = elim c.if-k-lt2.branch [ then-k-lt2+else-n-lt10 w ↦ inl (omega arith) | else-k-lt2 w ↦ inr (omega arith) ] in
    rw (num-two a.args.k a.args.n a.requires.1 a.requires.0 two) c.put_two.ensures
