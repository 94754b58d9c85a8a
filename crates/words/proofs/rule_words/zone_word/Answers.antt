-- The sum of its fields.
use native.Mathlib.Omega.{arith}
use Rattle.words.specs.Packing.{rule_word}
use Rattle.words.proofs.rule_words.zone_word.Goals as goal

pub returns : goal.returns
unfolding rule_word
returns c = omega arith
