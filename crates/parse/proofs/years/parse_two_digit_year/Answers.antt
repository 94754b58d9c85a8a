-- Three bytes at a minus, else two, counted.
use borrow.Author.Tests.{eq-eqb, ne_eqb}
use lib.ListN.{drop}
use Rattle.parse.proofs.years.YearParts.{year-in-full, two_digits}
use Rattle.parse.proofs.years.parse_two_digit_year.Goals as goal

pub returns-then-minus_first-eq1 : goal.returns-then-minus_first-eq1
returns-then-minus_first-eq1 c =
    let a = c.args in
    let at = a.cursor.at in
    let text = a.text.now in
    let s = drop at text in
    rw (← c.minus_first.ensures, eq-eqb _ 1 c.if-minus_first-eq1.true, ← year-in-full 3 s) c.take_year.ensures

pub returns : goal.returns
returns c =
    let a = c.args in
    let at = a.cursor.at in
    let text = a.text.now in
    let s = drop at text in
    rw (
      ← c.minus_first.ensures,
      ne_eqb _ 1 c.if-minus_first-eq1.false,
      two_digits a.edition a.current_year s,
      ← c.short_since.ensures,
    )
    c.take_year-2.ensures
