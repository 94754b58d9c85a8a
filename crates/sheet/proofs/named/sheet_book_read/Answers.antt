-- The answer of the book's reader, where there is room for it.
use borrow.Author.Tests.{le-leb, lt-leb}
use lib.ListN.{length}
use mathlib.Core.Path.{refl}
use native.Mathlib.Omega.{arith}
use Rattle.sheet.proofs.BookFits.{open-fits}
use borrow.Author.Rules.{rules}
use Rattle.sheet.proofs.named.sheet_book_read.Goals as goal

pub returns-then-answer-lt2 : goal.returns-then-answer-lt2
returns-then-answer-lt2 c =
    let a = c.args in
    rw (lt-leb 2 (length a.answer.now) (omega arith)) (record { number = refl; row = refl }, refl)

pub give_counted-requires : goal.give_counted-requires
give_counted-requires c =
    let s = c in
    let a = s.args in
    let wrote = c.read_book.ensures in
    (search rules, rw wrote.0.whole (open-fits a.bytes.now a.book.now (omega arith)))

pub returns : goal.returns
returns c =
    let s = c in
    let wrote = c.read_book.ensures in
    rw (le-leb 2 (length s.args.answer.now) (omega (arith, c.if-answer-lt2.false)), ← wrote.0.whole) (c.give_counted.ensures, wrote.1)
