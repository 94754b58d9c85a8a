-- With the count or without.
use native.Mathlib.Omega.{arith}
use borrow.Author.Tests.{le-leb, lt-leb}
use Rattle.words.specs.Pieces.{most_bytes}
use Rattle.word_writer.proofs.measuring.most_bytes.Goals as goal

pub returns-then-bytes-ge29 : goal.returns-then-bytes-ge29
unfolding most_bytes
returns-then-bytes-ge29 c =
    let e = c.code-bytes.ensures in
    rw (← e, le-leb _ _ c.if-bytes-ge29.true) (omega (arith, c.count.ensures.0))

pub returns-else-bytes-ge29 : goal.returns-else-bytes-ge29
unfolding most_bytes
returns-else-bytes-ge29 c =
    let e = c.code-bytes.ensures in
    rw (← e, lt-leb _ _ c.if-bytes-ge29.false) (omega arith)
