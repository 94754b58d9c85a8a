-- The list's names are those of its table.
use borrow.Author.Rules.{rules}
use native.Mathlib.Omega.{arith}
use Rattle.names.proofs.rooms.Lent.{opened-list, unlent-list}
use Rattle.names.proofs.lengths.name_length.Goals as goal
use Rattle.names.proofs.lengths.name_length.Goals.{else-table-ge10-via-then-table-ge10+else-book-eq-OPENED, else-table-ge10-via-else-table-ge10}

pub opened_length-requires : goal.opened_length-requires
opened_length-requires c =
    (search rules, rw (opened-list c.table_of-table.ensures c.args.book.now) at c.requires)

pub returns-then-book-eq-OPENED : goal.returns-then-book-eq-OPENED
returns-then-book-eq-OPENED c =
    rw (opened-list c.table_of-table.ensures c.args.book.now) c.opened_length.ensures

pub english_length-requires : goal.english_length-requires
english_length-requires c =
    let e = unlent-list c.table_of-table.ensures c.args.book.now
    (elim c.else-table-ge10.branch [
      | else-table-ge10-via-then-table-ge10+else-book-eq-OPENED w ↦ λ h k. w.if-book-eq-OPENED.false k
      | else-table-ge10-via-else-table-ge10 w ↦ λ h k. absurd (omega arith)
    ]) in
    (c.table_of-table.ensures.below, rw e at c.requires)

pub returns : goal.returns
returns c =
    rw (unlent-list c.table_of-table.ensures c.args.book.now
    (elim c.else-table-ge10.branch [
      | else-table-ge10-via-then-table-ge10+else-book-eq-OPENED w ↦ λ h k. w.if-book-eq-OPENED.false k
      | else-table-ge10-via-else-table-ge10 w ↦ λ h k. absurd (omega arith)
    ])) c.english_length.ensures
