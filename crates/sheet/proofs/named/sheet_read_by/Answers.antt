-- The reader with the choices of a number and the book of a row, where they stand for some.
use native.Mathlib.Omega.{arith}
use borrow.Author.Tests.{le-leb, lt-leb}
use mathlib.Core.Path.{sym, ◌∙◌}
use mir.Syntax.{w32}
use mir.ValLaws.{to_z-of_z}
use Rattle.meaning.specs.OpenedBooks.{book_in}
use Rattle.sheet.proofs.Rooms.{chosen, no-choices, by-book, no-book}
use Rattle.sheet.specs.Numbers.{choices_of, of_reading, is_book}
use Rattle.sheet.specs.Sheet.{if_book, read_of}
use Rattle.sheet.proofs.named.sheet_read_by.Goals as goal

pub returns-then-choices-gt7 : goal.returns-then-choices-gt7
returns-then-choices-gt7 c =
    let a = c.args in
    let n = a.choices in
    no-choices (of_reading n) a.answer.now _ (lt-leb n 7 (omega arith))

pub returns-then-not-is_book : goal.returns-then-not-is_book
returns-then-not-is_book c =
    let a = c.args in
    let n = a.choices in
    chosen (of_reading n) a.answer.now _ (le-leb n 7 (omega arith))
    (no-book (is_book a.book.now) a.answer.now _ (sym c.is_book.ensures ∙ c.if-not-is_book.true))

pub returns : goal.returns
returns c =
    let m = c in
    let s = m in
    let a = s.args in
    let n = a.choices in
    let read = rw (to_z-of_z w32 a.year s.ranges.year, c.choices_of.ensures) at c.read.ensures in
    chosen (of_reading n) a.answer.now (if_book (is_book a.book.now) (read_of (choices_of n) (book_in a.book.now) a.pattern.now a.text.now a.year a.answer.now)) (le-leb n 7 (omega arith))
    (by-book (is_book a.book.now) a.answer.now (read_of (choices_of n) (book_in a.book.now) a.pattern.now a.text.now a.year a.answer.now) (sym m.is_book.ensures ∙ m.if-not-is_book.false) read)
