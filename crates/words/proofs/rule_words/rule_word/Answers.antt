-- The sum of a rule's fields, by its kind.
use native.Mathlib.Omega.{arith}
use Rattle.words.specs.Packing.{rule_word}
use Rattle.words.proofs.rule_words.rule_word.Goals as goal

pub overflow_mul-result-in-SkippedName-2 : goal.overflow_mul-result-in-SkippedName-2
unfolding rule_word
overflow_mul-result-in-SkippedName-2 c = omega (arith, rw c.in-SkippedName.is at c.requires)

pub overflow_add-result-in-SkippedName-2 : goal.overflow_add-result-in-SkippedName-2
unfolding rule_word
overflow_add-result-in-SkippedName-2 c = omega (arith, rw c.in-SkippedName.is at c.requires)

pub overflow_mul-result-in-Letters-2 : goal.overflow_mul-result-in-Letters-2
unfolding rule_word
overflow_mul-result-in-Letters-2 c = omega (arith, rw c.in-Letters.is at c.requires)

pub overflow_add-result-in-Letters-2 : goal.overflow_add-result-in-Letters-2
unfolding rule_word
overflow_add-result-in-Letters-2 c = omega (arith, rw c.in-Letters.is at c.requires)

pub overflow_mul-result-in-Years : goal.overflow_mul-result-in-Years
unfolding rule_word
overflow_mul-result-in-Years c = omega (arith, rw c.in-Years.is at c.requires)

pub overflow_add-result-in-Years : goal.overflow_add-result-in-Years
unfolding rule_word
overflow_add-result-in-Years c = omega (arith, rw c.in-Years.is at c.requires)

pub overflow_mul-result-in-FixedYear : goal.overflow_mul-result-in-FixedYear
unfolding rule_word
overflow_mul-result-in-FixedYear c = omega (arith, rw c.in-FixedYear.is at c.requires)

pub overflow_add-result-in-FixedYear : goal.overflow_add-result-in-FixedYear
unfolding rule_word
overflow_add-result-in-FixedYear c = omega (arith, rw c.in-FixedYear.is at c.requires)

pub returns-in-Number : goal.returns-in-Number
unfolding rule_word
returns-in-Number c = rw c.in-Number.is c.number_word.ensures

pub returns-in-SkippedNumber : goal.returns-in-SkippedNumber
unfolding rule_word
returns-in-SkippedNumber c = rw c.in-SkippedNumber.is (omega arith)

pub returns-in-LetterQuarter : goal.returns-in-LetterQuarter
unfolding rule_word
returns-in-LetterQuarter c = rw c.in-LetterQuarter.is

pub returns-in-SkippedName : goal.returns-in-SkippedName
unfolding rule_word
returns-in-SkippedName c = rw c.in-SkippedName.is (omega arith)

pub returns-in-MatchedName : goal.returns-in-MatchedName
unfolding rule_word
returns-in-MatchedName c = rw c.in-MatchedName.is (omega arith)

pub returns-in-Letters : goal.returns-in-Letters
unfolding rule_word
returns-in-Letters c = rw c.in-Letters.is (omega arith)

pub returns-in-Years : goal.returns-in-Years
unfolding rule_word
returns-in-Years c = rw c.in-Years.is (omega arith)

pub returns-in-FixedYear : goal.returns-in-FixedYear
unfolding rule_word
returns-in-FixedYear c = rw c.in-FixedYear.is (omega arith)

pub returns-in-TwoDigitYear : goal.returns-in-TwoDigitYear
unfolding rule_word
returns-in-TwoDigitYear c = rw c.in-TwoDigitYear.is

pub returns-in-Zone : goal.returns-in-Zone
unfolding rule_word
returns-in-Zone c = rw c.in-Zone.is c.zone_word.ensures
