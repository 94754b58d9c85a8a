-- One digit, four and four.
use Prim.Native.Nat.{◌/◌, ◌%◌}
use native.Mathlib.Omega.{arith}
use Rattle.laws.proofs.Digits.{length_digits}
use Rattle.laws.proofs.Laid.{laid_then}
use Rattle.digits.proofs.numbers.Laws.{digits-nine}
use Rattle.digits.proofs.numbers.put_nine.Goals as goal

pub put_four-requires : goal.put_four-requires
put_four-requires c =
    let second = c.put_four-next in
    let first = c.put_byte-first in
    let m = c in
    (omega arith, omega (arith, m.requires.1, first.ensures.end, second.ensures.end, length_digits 4 (m.args.n / 10000 % 10000), first.auto.out, second.auto.out))

pub returns : goal.returns
returns c =
    let third = c.put_four in
    let second = c.put_four-next in
    let first = c.put_byte-first in
    let m = c in
    rw (← digits-nine m.args.n m.requires.0) (laid_then (laid_then first.ensures second.ensures) third.ensures)
