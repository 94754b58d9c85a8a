-- By the size of the row.
use borrow.Author.Tests.{eq-eqb, ne_eqb}
use Rattle.laws.proofs.Told.{by_whole}
use Rattle.meaning.specs.OpenedBooks.{held_names, book_write_check, write_book, book_output}
use Rattle.books.proofs.write_book.Goals as goal

pub returns-then-book-eq-OPENED_SIZE : goal.returns-then-book-eq-OPENED_SIZE
unfolding write_book book_output book_write_check held_names
returns-then-book-eq-OPENED_SIZE c =
    let w = c.write_opened.ensures in
    rw (eq-eqb _ 1344 c.if-book-eq-OPENED_SIZE.true) (by_whole w.told, w.held)

pub returns : goal.returns
unfolding write_book book_output book_write_check held_names
returns c =
    let w = c.write_english.ensures in
    rw (ne_eqb _ 1344 c.if-book-eq-OPENED_SIZE.false) (by_whole w.told, w.held)
