-- Each arm measures the text of its rule.
use borrow.Author.Rules.{rules}
use mir.Syntax.{w32}
use mir.ValLaws.{to_z-of_z}
use native.Mathlib.Omega.{arith}
use Rattle.laws.proofs.Digits.{num-fits}
use Rattle.laws.proofs.Fields.{allowed, quantity-below}
use Rattle.laws.specs.Widths.{most_digits}
use Rattle.meaning.specs.Writing.{quantity_of, rule_text}
use Rattle.meaning.specs.declared.Quantity.TheVariants.{Quarter}
use Rattle.format.proofs.lengths.rule_length.Goals as goal

-- a quarter has one digit
pub returns-in-LetterQuarter : goal.returns-in-LetterQuarter
unfolding rule_text most_digits
returns-in-LetterQuarter c =
    rw c.in-LetterQuarter.is
    (omega (arith, num-fits 1 (quantity_of Quarter c.args.f) (omega arith) (quantity-below Quarter c.args.f (allowed c.args.f c.requires.f_value))))

pub year_length-requires : goal.year_length-requires
unfolding rule_text
year_length-requires c =
    let e = to_z-of_z w32 c.args.f.year (search rules) in
    rw e (rw c.in-Years.is at c.requires.f_len_bound)

pub year_length-requires-in-FixedYear : goal.year_length-requires-in-FixedYear
unfolding rule_text
year_length-requires-in-FixedYear c =
    let e = to_z-of_z w32 c.args.f.year (search rules) in
    rw e (rw c.in-FixedYear.is at c.requires.f_len_bound)

pub zone_length-requires : goal.zone_length-requires
zone_length-requires c =
    rw (to_z-of_z w32 c.args.f.offset (search rules)) (allowed c.args.f c.requires.f_value).offset

pub returns-in-Number : goal.returns-in-Number
unfolding rule_text
returns-in-Number c = rw (c.in-Number.is, ← c.quantity_of.ensures) c.padded_length.ensures

pub returns-in-SkippedNumber : goal.returns-in-SkippedNumber
unfolding rule_text
returns-in-SkippedNumber c = rw (c.in-SkippedNumber.is, ← c.quantity_of-in-SkippedNumber.ensures) c.padded_length-in-SkippedNumber.ensures

pub returns-in-SkippedName : goal.returns-in-SkippedName
unfolding rule_text
returns-in-SkippedName c = rw c.in-SkippedName.is c.length_of_name.ensures

pub returns-in-MatchedName : goal.returns-in-MatchedName
unfolding rule_text
returns-in-MatchedName c = rw c.in-MatchedName.is c.length_of_name-in-MatchedName.ensures

pub returns-in-Letters : goal.returns-in-Letters
unfolding rule_text
returns-in-Letters c = rw c.in-Letters.is c.length_of_name-in-Letters.ensures

pub returns-in-Years : goal.returns-in-Years
unfolding rule_text
returns-in-Years c =
    let e = to_z-of_z w32 c.args.f.year (search rules) in
    rw c.in-Years.is (rw e at c.year_length.ensures)

pub returns-in-FixedYear : goal.returns-in-FixedYear
unfolding rule_text
returns-in-FixedYear c =
    let e = to_z-of_z w32 c.args.f.year (search rules) in
    rw c.in-FixedYear.is (rw e at c.year_length-in-FixedYear.ensures)

pub returns-in-TwoDigitYear : goal.returns-in-TwoDigitYear
unfolding rule_text
returns-in-TwoDigitYear c =
    let e = to_z-of_z w32 c.args.f.year (search rules) in
    rw c.in-TwoDigitYear.is (rw e at c.two_digit_length.ensures)

pub returns-in-Zone : goal.returns-in-Zone
unfolding rule_text
returns-in-Zone c =
    let e = to_z-of_z w32 c.args.f.offset (search rules) in
    rw c.in-Zone.is (rw e at c.zone_length.ensures)
