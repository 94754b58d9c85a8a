-- The two parts of the row that are handed on are those of the definition.
use Prim.Native.Nat.{◌%◌, ◌≤◌}
use native.Mathlib.Omega.{arith}
use borrow.Author.Tests.{le-leb, lt-leb, eq-eqb, ne_eqb}
use lib.ListN.{get_or}
use Rattle.prepared.proofs.opening.Parts.{all_words}
use Rattle.prepared.proofs.opening.accepted.Goals as goal

pub returns-then-from-gt256 : goal.returns-then-from-gt256
returns-then-from-gt256 c = rw (lt-leb _ _ c.if-from-gt256.true)

pub returns-then-check-row : goal.returns-then-check-row
returns-then-check-row c =
    let a = c.args in
    let row = a.row.now in
    let few : get_or row 2 0 % 512 ≤ 256 = omega arith in
    let whole = all_words a.used row few (omega arith) (omega arith) c.check_word-sums.ensures c.check_word-check.ensures in
    rw (le-leb _ _ few, ← whole, ne_eqb _ _ c.if-check-row.true)

pub returns : goal.returns
returns c =
    let a = c.args in
    let row = a.row.now in
    let few : get_or row 2 0 % 512 ≤ 256 = omega arith in
    let whole = all_words a.used row few (omega arith) (omega arith) c.check_word-sums.ensures c.check_word-check.ensures in
    rw (le-leb _ _ few, ← whole, eq-eqb _ _ c.if-check-row.false)
