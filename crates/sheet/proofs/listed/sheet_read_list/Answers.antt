-- The list with the choices of a number and the book of a row, where they stand for some and there is room for the answer.
use lib.ListN.{length}
use native.Mathlib.Omega.{arith}
use borrow.Author.Rules.{rules}
use borrow.Author.Tests.{le-leb, lt-leb}
use mathlib.Core.Path.{refl, sym, ◌∙◌}
use mir.Syntax.{w32}
use mir.ValLaws.{to_z-of_z}
use Rattle.meaning.specs.Lists.{rows_of}
use Rattle.meaning.specs.OpenedBooks.{book_in}
use Rattle.sheet.proofs.ListFits.{list-fits}
use Rattle.sheet.specs.Numbers.{choices_of}
use Rattle.sheet.proofs.listed.sheet_read_list.Goals as goal

pub returns-then-choices-gt7 : goal.returns-then-choices-gt7
returns-then-choices-gt7 c =
    let a = c.args in
    rw (lt-leb a.choices 7 (omega arith)) (record { number = refl; row = refl }, refl)

pub returns-then-not-is_book : goal.returns-then-not-is_book
returns-then-not-is_book c =
    let a = c.args in
    rw (le-leb a.choices 7 (omega arith), sym c.is_book.ensures ∙ c.if-not-is_book.true) (record { number = refl; row = refl }, refl)

pub returns-then-answer-lt2 : goal.returns-then-answer-lt2
returns-then-answer-lt2 c =
    let m = c in
    let a = m.args in
    rw (le-leb a.choices 7 (omega arith), sym m.is_book.ensures ∙ m.if-not-is_book.false, lt-leb 2 (length a.answer.now) (omega arith))
    (record { number = refl; row = refl }, refl)

pub give_counted-requires : goal.give_counted-requires
give_counted-requires c =
    let l = c in
    let s = l in
    let a = s.args in
    let rows = rows_of a.days.now a.months.now a.years.now a.codes.now in
    let reads = rw (to_z-of_z w32 a.year s.ranges.year, l.choices_of-choices.ensures) at l.read_list.ensures.0.whole in
    (search rules, rw reads (list-fits (choices_of a.choices) (book_in a.book.now) a.pattern.now a.text.now a.year (omega arith) (omega arith) s.ranges.year rows))

pub returns : goal.returns
returns c =
    let l = c in
    let room = l in
    let m = room in
    let s = m in
    let a = s.args in
    let reads = rw (to_z-of_z w32 a.year s.ranges.year, l.choices_of-choices.ensures) at l.read_list.ensures in
    rw (le-leb a.choices 7 (omega arith), sym m.is_book.ensures ∙ m.if-not-is_book.false, le-leb 2 (length a.answer.now) (omega (arith, room.if-answer-lt2.false)), ← reads.0.whole)
    (c.give_counted.ensures, reads.1)
