-- Two digits and two more.
use Prim.Native.Nat.{◌/◌}
use native.Mathlib.Omega.{arith}
use Rattle.laws.proofs.Digits.{length_digits}
use Rattle.laws.proofs.Laid.{laid_then}
use Rattle.digits.proofs.numbers.Laws.{digits-four}
use Rattle.digits.proofs.numbers.put_four.Goals as goal

pub put_two-requires : goal.put_two-requires
put_two-requires c =
    let first = c.put_two-next in
    let m = c in
    (omega arith, omega (arith, m.requires.1, first.ensures.end, length_digits 2 (m.args.n / 100), first.auto.out))

pub returns : goal.returns
returns c =
    let first = c.put_two-next in
    let m = c in
    rw (← digits-four m.args.n m.requires.0) (laid_then first.ensures c.put_two.ensures)
