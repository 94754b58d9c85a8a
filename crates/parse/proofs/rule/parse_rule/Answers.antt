-- Each arm reads as its rule says.
use lib.ListN.{drop}
use Rattle.laws.proofs.OpenedBooks.{opened-as-many}
use Rattle.meaning.specs.Names.{names}
use Rattle.meaning.specs.OpenedBooks.{book_in}
use Rattle.meaning.specs.Readers.{letters}
use Rattle.meaning.specs.Reading.{read_rule}
use Rattle.parse.proofs.named.NameParts.{part-named, letters-below}
use Rattle.parse.proofs.rule.parse_rule.Goals as goal

pub named-requires : goal.named-requires
named-requires c =
    let a = c.args in
    let at = a.cursor.at in
    let text = a.text.now in
    let l = c.in-Letters.names in
    rw (c.match_letters.ensures, ← opened-as-many a.book.now l) (letters-below at _ _ (drop at text))

pub returns-in-Number : goal.returns-in-Number
unfolding read_rule
returns-in-Number c =
    rw (
      c.in-Number.is,
      ← c.most_read.ensures,
      ← c.extent-k.ensures,
    )
    c.take_number.ensures

pub returns-in-SkippedNumber : goal.returns-in-SkippedNumber
unfolding read_rule
returns-in-SkippedNumber c = rw (c.in-SkippedNumber.is, ← c.extent-k-in-SkippedNumber.ensures) c.pass.ensures

pub returns-in-LetterQuarter : goal.returns-in-LetterQuarter
unfolding read_rule
returns-in-LetterQuarter c = rw c.in-LetterQuarter.is c.pass-in-LetterQuarter.ensures

pub returns-in-SkippedName : goal.returns-in-SkippedName
unfolding read_rule
returns-in-SkippedName c = rw c.in-SkippedName.is c.pass-in-SkippedName.ensures

pub returns-in-MatchedName : goal.returns-in-MatchedName
unfolding read_rule
returns-in-MatchedName c = rw c.in-MatchedName.is c.parse_name.ensures

pub returns-in-Letters : goal.returns-in-Letters
unfolding read_rule
returns-in-Letters c =
    let a = c.args in
    let at = a.cursor.at in
    let text = a.text.now in
    let l = c.in-Letters.names in
    let k = c.in-Letters.length in
    rw (c.in-Letters.is, part-named l at (letters k (names (book_in a.book.now) l)) (drop at text), ← c.match_letters.ensures) c.named.ensures

pub returns-in-Years : goal.returns-in-Years
unfolding read_rule
returns-in-Years c = rw c.in-Years.is c.parse_years.ensures

pub returns-in-FixedYear : goal.returns-in-FixedYear
unfolding read_rule
returns-in-FixedYear c = rw c.in-FixedYear.is c.parse_fixed_year.ensures

pub returns-in-TwoDigitYear : goal.returns-in-TwoDigitYear
unfolding read_rule
returns-in-TwoDigitYear c = rw c.in-TwoDigitYear.is c.parse_two_digit_year.ensures

pub returns-in-Zone : goal.returns-in-Zone
unfolding read_rule
returns-in-Zone c = rw c.in-Zone.is c.parse_zone.ensures
