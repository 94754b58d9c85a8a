-- By its size.
use borrow.Author.Tests.{eq-eqb, ne_eqb}
use lib.ListN.{length}
use Rattle.sheet.proofs.numbers.is_book.Goals as goal

pub returns-then-book-eq0 : goal.returns-then-book-eq0
returns-then-book-eq0 c = rw (eq-eqb (length c.args.book.now) 0 c.if-book-eq0.true)

pub returns-else-book-eq0 : goal.returns-else-book-eq0
returns-else-book-eq0 c = rw (ne_eqb (length c.args.book.now) 0 c.if-book-eq0.false)
