-- The line with the choices of a number and the book of a row, where they stand for some and there is room for it.
use lib.ListN.{length}
use native.Mathlib.Omega.{arith}
use borrow.Author.Tests.{le-leb, lt-leb}
use mathlib.Core.Path.{refl, sym, ◌∙◌}
use mir.Syntax.{w32}
use mir.ValLaws.{to_z-of_z}
use Rattle.meaning.specs.OpenedBooks.{book_in}
use Rattle.laws.proofs.Lists.{no-line-read}
use Rattle.sheet.specs.Numbers.{choices_of}
use Rattle.sheet.proofs.listed.sheet_read_line.Goals as goal

pub returns-then-choices-gt7 : goal.returns-then-choices-gt7
returns-then-choices-gt7 c =
    let a = c.args in
    rw (lt-leb a.choices 7 (omega arith)) (record { number = refl; row = refl })

pub returns-then-not-is_book : goal.returns-then-not-is_book
returns-then-not-is_book c =
    let a = c.args in
    rw (le-leb a.choices 7 (omega arith), sym c.is_book.ensures ∙ c.if-not-is_book.true) (record { number = refl; row = refl })

pub returns-then-answer-lt51 : goal.returns-then-answer-lt51
returns-then-answer-lt51 c =
    let m = c in
    let a = m.args in
    rw (le-leb a.choices 7 (omega arith), sym m.is_book.ensures ∙ m.if-not-is_book.false, lt-leb 51 (length a.answer.now) (omega arith))
    (record { number = refl; row = refl })

pub returns-then-text-at : goal.returns-then-text-at
returns-then-text-at c =
    let room = c in
    let m = room in
    let a = m.args in
    rw (le-leb a.choices 7 (omega arith), sym m.is_book.ensures ∙ m.if-not-is_book.false, le-leb 51 (length a.answer.now) (omega (arith, room.if-answer-lt51.false)), no-line-read (choices_of a.choices) (book_in a.book.now) a.pattern.now a.text.now a.year a.at (omega arith))
    (record { number = refl; row = refl })

pub returns : goal.returns
returns c =
    let room = c in
    let m = room in
    let s = m in
    let a = s.args in
    let line = rw (to_z-of_z w32 a.year s.ranges.year, c.choices_of.ensures) at c.give_line.ensures in
    rw (le-leb a.choices 7 (omega arith), sym m.is_book.ensures ∙ m.if-not-is_book.false, le-leb 51 (length a.answer.now) (omega (arith, room.if-answer-lt51.false)))
    line
