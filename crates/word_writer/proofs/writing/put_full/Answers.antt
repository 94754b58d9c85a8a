-- Two digits, and the byte behind them.
use lib.ListN.{length-append}
use native.Mathlib.Omega.{arith}
use Rattle.laws.proofs.Digits.{num-digits, length_digits}
use Rattle.laws.proofs.Laid.{laid_then}
use Rattle.word_writer.proofs.writing.put_full.Goals as goal

pub put_two-next-requires : goal.put_two-next-requires
put_two-next-requires c =
    let n = c.args.n in
    (c.requires.0, omega (arith, rw (length-append, num-digits 2 n (omega arith) c.requires.0, length_digits 2 n) at c.requires.1))

pub put_behind-requires : goal.put_behind-requires
put_behind-requires c =
    let wrote = c.put_two-next in
    let n = c.args.n in
    omega (arith, rw (length-append, num-digits 2 n (omega arith) c.requires.0) at c.requires.1, wrote.ensures.end, wrote.auto.out)

pub returns : goal.returns
returns c =
    let wrote = c.put_two-next in
    rw (num-digits 2 c.args.n (omega arith) c.requires.0) (laid_then wrote.ensures c.put_behind.ensures)
