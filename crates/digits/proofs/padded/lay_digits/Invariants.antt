-- What lies there and the digits still to be laid are all the digits.
use lib.Seq.{sets}
use mathlib.Core.Path.{◌≡◌}
use Rattle.meaning.specs.Bytes as text
use Rattle.digits.proofs.padded.lay_digits.Given as goal

abbrev pub invariant-loop-i : goal.invariant-loop-i
invariant-loop-i l = sets l.out l.at (text.digits l.i l.m) ≡ sets l.initial.out l.at (text.digits l.w l.n)
