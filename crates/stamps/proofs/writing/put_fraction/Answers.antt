-- Nothing, or a point and nine digits.
use mathlib.Core.Path.{refl, ap}
use native.Mathlib.Omega.{arith}
use lib.ListN.{length}
use Rattle.laws.proofs.Digits.{length_digits}
use Rattle.laws.proofs.Laid.{laid_then}
use Rattle.stamps.proofs.writing.Lengths.{no_fraction, nine-fraction}
use Rattle.stamps.proofs.writing.put_fraction.Goals as goal

pub returns-then-nanos-eq0 : goal.returns-then-nanos-eq0
returns-then-nanos-eq0 c = rw (no_fraction c.args.nanos c.if-nanos-eq0.true) (record { end = omega arith; held = refl })

pub put_byte-next-requires : goal.put_byte-next-requires
put_byte-next-requires c =
    omega (arith, c.requires.1, ap length (nine-fraction c.args.nanos c.if-nanos-eq0.false c.requires.0))

pub put_nine-requires : goal.put_nine-requires
put_nine-requires c =
    let first = c.put_byte-next in
    let nine = ap length (nine-fraction c.args.nanos c.if-nanos-eq0.false c.requires.0) in
    (c.requires.0, omega (arith, c.requires.1, first.ensures.end, first.auto.out, nine, length_digits 9 c.args.nanos))

pub returns : goal.returns
returns c =
    rw (nine-fraction c.args.nanos c.if-nanos-eq0.false c.requires.0) (laid_then c.put_byte-next.ensures c.put_nine.ensures)
