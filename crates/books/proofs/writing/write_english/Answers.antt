-- English is a book, and its bytes are these.
use Rattle.std.specs.Prelude.{length, Ok}
use mathlib.Core.Path.{ap, ◌∙◌}
use native.Mathlib.Omega.{arith}
use borrow.Author.Tests.{le-leb, lt-leb}
use Rattle.meaning.proofs.Books.{english-valid}
use Rattle.meaning.specs.Bytes.{bytes}
use Rattle.meaning.specs.Books.{joined, names_of, book_bytes}
use Rattle.meaning.specs.Names.{english}
use Rattle.books.proofs.writing.write_english.Goals as goal

pub returns-then-out-n : goal.returns-then-out-n
unfolding english bytes joined book_bytes
returns-then-out-n c =
    let t = lt-leb (length (book_bytes (names_of english))) (length c.args.out.now) c.if-out-n.true in
    record { told = rw (english-valid.good, t); held = rw (english-valid.good, t) }

pub returns : goal.returns
unfolding english bytes joined book_bytes
returns c =
    let t = le-leb (length (book_bytes (names_of english))) (length c.args.out.now) c.if-out-n.false in
    let laid = c.put_bytes.ensures in
    record { told = rw (english-valid.good, t) (ap Ok (laid.end ∙ omega arith)); held = rw (english-valid.good, t) laid.held }
