-- Nineteen bytes, the fraction and the offset.
use mathlib.Core.Path.{ap}
use native.Mathlib.Omega.{arith}
use lib.ListN.{length}
use Rattle.laws.proofs.Digits.{length_digits}
use Rattle.laws.proofs.Stamps.{stamp-fine}
use Rattle.stamps.proofs.writing.Lengths.{fraction_in, no_fraction, nine-fraction, text-long, offset-short}
use Rattle.stamps.proofs.writing.stamp_length.Goals as goal

pub overflow_add-result : goal.overflow_add-result
overflow_add-result c = record { fits = omega (arith, c.offset_length.ensures, offset-short c.args.t (stamp-fine c.args.t c.requires)) }

pub returns-then-t-eq0 : goal.returns-then-t-eq0
returns-then-t-eq0 c =
    let t = c.args.t in
    omega (arith, c.offset_length.ensures, text-long t (stamp-fine t c.requires), ap length (no_fraction (fraction_in t) c.if-t-eq0.true))

pub overflow_add-result-2 : goal.overflow_add-result-2
overflow_add-result-2 c = record { fits = omega (arith, c.offset_length-2.ensures, offset-short c.args.t (stamp-fine c.args.t c.requires)) }

pub returns : goal.returns
returns c =
    let t = c.args.t in
    let nine = ap length (nine-fraction (fraction_in t) c.if-t-eq0.false (omega arith)) in
    omega (arith, c.offset_length-2.ensures, text-long t (stamp-fine t c.requires), nine, length_digits 9 (fraction_in t))
