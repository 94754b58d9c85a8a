-- Each arm writes the text of its rule.
use mir.Syntax.{w32}
use mir.ValLaws.{to_z-of_z}
use borrow.Author.Rules.{rules}
use native.Mathlib.Omega.{arith}
use Rattle.laws.proofs.Laid.{laid_then}
use Rattle.meaning.specs.Writing.{rule_text}
use Rattle.format.proofs.rule.+format_rule.Goals as goal

pub put_quantity-requires-clause-f_in_bounds : goal.put_quantity-requires-clause-f_in_bounds
unfolding rule_text
put_quantity-requires-clause-f_in_bounds t c = rw c.in-Number.is at c.requires.f_in_bounds

pub put_quantity-requires-in-SkippedNumber-clause-f_in_bounds : goal.put_quantity-requires-in-SkippedNumber-clause-f_in_bounds
unfolding rule_text
put_quantity-requires-in-SkippedNumber-clause-f_in_bounds t c = rw c.in-SkippedNumber.is at c.requires.f_in_bounds

pub put_byte-next-requires : goal.put_byte-next-requires
unfolding rule_text
put_byte-next-requires t c = omega (arith, rw c.in-LetterQuarter.is at c.requires.f_in_bounds)

pub format_rule-requires : goal.format_rule-requires
unfolding rule_text
format_rule-requires t c =
    let byte = c.put_byte-next in (
      omega (arith, rw c.in-LetterQuarter.is at c.decreases),
      (c.requires.f_value, omega (arith, rw c.in-LetterQuarter.is at c.requires.f_in_bounds, byte.ensures.end, byte.auto.out)),
    )

pub put_name_of-requires-clause-f_in_bounds : goal.put_name_of-requires-clause-f_in_bounds
unfolding rule_text
put_name_of-requires-clause-f_in_bounds t c = rw c.in-SkippedName.is at c.requires.f_in_bounds

pub put_name_of-requires-in-MatchedName-clause-f_in_bounds : goal.put_name_of-requires-in-MatchedName-clause-f_in_bounds
unfolding rule_text
put_name_of-requires-in-MatchedName-clause-f_in_bounds t c = rw c.in-MatchedName.is at c.requires.f_in_bounds

pub put_name_of-requires-in-Letters-clause-f_in_bounds : goal.put_name_of-requires-in-Letters-clause-f_in_bounds
unfolding rule_text
put_name_of-requires-in-Letters-clause-f_in_bounds t c = rw c.in-Letters.is at c.requires.f_in_bounds

pub zero_padded_i-requires : goal.zero_padded_i-requires
unfolding rule_text
zero_padded_i-requires t c =
    let e = to_z-of_z w32 c.args.f.year (search rules) in
    rw e (rw c.in-Years.is at c.requires.f_in_bounds)

pub zero_padded_i-requires-in-FixedYear : goal.zero_padded_i-requires-in-FixedYear
unfolding rule_text
zero_padded_i-requires-in-FixedYear t c =
    let e = to_z-of_z w32 c.args.f.year (search rules) in
    rw e (rw c.in-FixedYear.is at c.requires.f_in_bounds)

pub two_digit_year-requires : goal.two_digit_year-requires
unfolding rule_text
two_digit_year-requires t c =
    let e = to_z-of_z w32 c.args.f.year (search rules) in
    rw e (rw c.in-TwoDigitYear.is at c.requires.f_in_bounds)

pub format_zone-requires : goal.format_zone-requires
unfolding rule_text
format_zone-requires t c =
    let e = to_z-of_z w32 c.args.f.offset (search rules) in
    rw e (rw c.in-Zone.is at c.requires.f_in_bounds)

pub returns-in-Number : goal.returns-in-Number
unfolding rule_text
returns-in-Number t c = rw c.in-Number.is c.put_quantity.ensures

pub returns-in-SkippedNumber : goal.returns-in-SkippedNumber
unfolding rule_text
returns-in-SkippedNumber t c = rw c.in-SkippedNumber.is c.put_quantity-in-SkippedNumber.ensures

pub returns-in-LetterQuarter : goal.returns-in-LetterQuarter
unfolding rule_text
returns-in-LetterQuarter t c = rw c.in-LetterQuarter.is (laid_then c.put_byte-next.ensures c.format_rule.ensures)

pub returns-in-SkippedName : goal.returns-in-SkippedName
unfolding rule_text
returns-in-SkippedName t c = rw c.in-SkippedName.is c.put_name_of.ensures

pub returns-in-MatchedName : goal.returns-in-MatchedName
unfolding rule_text
returns-in-MatchedName t c = rw c.in-MatchedName.is c.put_name_of-in-MatchedName.ensures

pub returns-in-Letters : goal.returns-in-Letters
unfolding rule_text
returns-in-Letters t c = rw c.in-Letters.is c.put_name_of-in-Letters.ensures

pub returns-in-Years : goal.returns-in-Years
unfolding rule_text
returns-in-Years t c =
    let e = to_z-of_z w32 c.args.f.year (search rules) in
    rw c.in-Years.is (rw e at c.zero_padded_i.ensures)

pub returns-in-FixedYear : goal.returns-in-FixedYear
unfolding rule_text
returns-in-FixedYear t c =
    let e = to_z-of_z w32 c.args.f.year (search rules) in
    rw c.in-FixedYear.is (rw e at c.zero_padded_i-in-FixedYear.ensures)

pub returns-in-TwoDigitYear : goal.returns-in-TwoDigitYear
unfolding rule_text
returns-in-TwoDigitYear t c =
    let e = to_z-of_z w32 c.args.f.year (search rules) in
    rw c.in-TwoDigitYear.is (rw e at c.two_digit_year.ensures)

pub returns-in-Zone : goal.returns-in-Zone
unfolding rule_text
returns-in-Zone t c =
    let e = to_z-of_z w32 c.args.f.offset (search rules) in
    rw c.in-Zone.is (rw e at c.format_zone.ensures)
