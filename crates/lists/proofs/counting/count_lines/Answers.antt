-- One for each newline, and one more where the last byte is none.
use mathlib.Core.Path.{ap, sym}
use Prim.Native.Nat.{◌<◌}
use native.Mathlib.Omega.{arith}
use lib.ListN.{length}
use borrow.Author.Rules.{rules}
use borrow.Author.Tests.{eq-eqb, ne_eqb}
use Rattle.laws.proofs.Lists.{line-none, lines-count}
use Rattle.lists.proofs.counting.Newlines.{few-newlines}
use Rattle.lists.proofs.counting.count_lines.Goals as goal

pub returns-then-n-eq0 : goal.returns-then-n-eq0
returns-then-n-eq0 c = sym (ap length (line-none c.args.text.now 0 (omega arith)))

pub returns-then-text-n-eq10 : goal.returns-then-text-n-eq10
returns-then-text-n-eq10 c =
    let s = c.args.text.now in
    let some : 0 < length s = omega arith in
    let count = rw (eq-eqb _ _ c.if-text-n-eq10.true) at (lines-count s some) in
    omega (arith, count, c.count_newlines-ended.ensures)

pub overflow_add-result : goal.overflow_add-result
overflow_add-result c = omega (arith, few-newlines c.args.text.now, c.count_newlines-ended.ensures)

pub returns : goal.returns
returns c =
    let s = c.args.text.now in
    let some : 0 < length s = omega arith in
    let count = rw (ne_eqb _ _ c.if-text-n-eq10.false) at (lines-count s some) in
    omega (arith, count, c.count_newlines-ended.ensures)
