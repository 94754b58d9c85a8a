-- The words still to come give what all of them give.
use lib.ListN.{drop}
use mathlib.Core.Path.{◌≡◌}
use Rattle.words.specs.Rows.{xor_from}
use Rattle.words.proofs.checking.check_word.Given as goal

abbrev pub invariant-loop-w : goal.invariant-loop-w
invariant-loop-w l = xor_from l.sum (drop l.w-index l.words) ≡ xor_from l.from l.words
