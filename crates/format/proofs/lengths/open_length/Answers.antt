-- One byte less where the last two are an escaped quote.
use native.Mathlib.Omega.{arith}
use Rattle.format.proofs.lengths.Laws.{open-less}
use Rattle.format.proofs.literals.Open.{open_kept}
use Rattle.format.proofs.lengths.open_length.Goals as goal

pub overflow_sub-result : goal.overflow_sub-result
overflow_sub-result c =
    let last = rw c.ends_in_quote.ensures at c.if-ends_in_quote.true in
    omega (arith, open-less c.args.src.now c.requires last, c.unescaped_length-n.ensures)

pub returns-then-ends_in_quote : goal.returns-then-ends_in_quote
returns-then-ends_in_quote c =
    let last = rw c.ends_in_quote.ensures at c.if-ends_in_quote.true in
    omega (arith, open-less c.args.src.now c.requires last, c.unescaped_length-n.ensures)

pub returns-else-ends_in_quote : goal.returns-else-ends_in_quote
returns-else-ends_in_quote c =
    let last = rw c.ends_in_quote.ensures at c.if-ends_in_quote.false in
    rw (open_kept c.args.src.now c.requires last) c.unescaped_length-n.ensures
