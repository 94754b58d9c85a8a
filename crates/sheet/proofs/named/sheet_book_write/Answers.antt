-- The answer of the book's writer, where the row is a book and there is room for it.
use borrow.Author.Tests.{le-leb, lt-leb}
use lib.ListN.{length}
use mathlib.Core.Path.{refl, sym, ◌∙◌}
use native.Mathlib.Omega.{arith}
use Rattle.sheet.proofs.BookFits.{write-book-fits}
use borrow.Author.Rules.{rules}
use Rattle.sheet.proofs.named.sheet_book_write.Goals as goal

pub returns-then-not-is_book : goal.returns-then-not-is_book
returns-then-not-is_book c = rw (sym c.is_book.ensures ∙ c.if-not-is_book.true) (record { number = refl; row = refl }, refl)

pub returns-then-answer-lt2 : goal.returns-then-answer-lt2
returns-then-answer-lt2 c =
    let a = c.args in
    rw (sym c.is_book.ensures ∙ c.if-not-is_book.false, lt-leb 2 (length a.answer.now) (omega arith)) (record { number = refl; row = refl }, refl)

pub give_counted-requires : goal.give_counted-requires
give_counted-requires c =
    let s = c in
    let a = s.args in
    let wrote = c.write_book.ensures in
    (search rules, rw wrote.0.whole (write-book-fits a.book.now a.out.now (omega arith)))

pub returns : goal.returns
returns c =
    let s = c in
    let wrote = c.write_book.ensures in
    let m = c in
    rw (sym m.is_book.ensures ∙ m.if-not-is_book.false, le-leb 2 (length s.args.answer.now) (omega (arith, m.if-answer-lt2.false)), ← wrote.0.whole) (c.give_counted.ensures, wrote.1)
