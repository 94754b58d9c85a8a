-- The list's names are those of its table.
use borrow.Author.Rules.{rules}
use native.Mathlib.Omega.{arith}
use Rattle.names.proofs.rooms.Lent.{opened-list, unlent-list}
use Rattle.names.proofs.writing.format_name.Goals as goal
use Rattle.names.proofs.writing.format_name.Goals.{else-table-ge10-via-then-table-ge10+else-book-eq-OPENED, else-table-ge10-via-else-table-ge10}

pub put_opened-requires : goal.put_opened-requires
put_opened-requires c =
    let e = opened-list c.table_of-table.ensures c.args.book.now in record { opened = (search rules, rw e at c.requires.index_in_bounds); index_in_bounds = rw e at c.requires.index_in_bounds_2 }

pub returns-then-book-eq-OPENED : goal.returns-then-book-eq-OPENED
returns-then-book-eq-OPENED c =
    rw (opened-list c.table_of-table.ensures c.args.book.now) c.put_opened.ensures

pub put_english-requires : goal.put_english-requires
put_english-requires c =
    let e = unlent-list c.table_of-table.ensures c.args.book.now
    (elim c.else-table-ge10.branch [
      | else-table-ge10-via-then-table-ge10+else-book-eq-OPENED w ↦ λ h k. w.if-book-eq-OPENED.false k
      | else-table-ge10-via-else-table-ge10 w ↦ λ h k. absurd (omega arith)
    ]) in
    record { english = (c.table_of-table.ensures.below, rw e at c.requires.index_in_bounds); index_in_bounds = rw e at c.requires.index_in_bounds_2 }

pub returns : goal.returns
returns c =
    rw (unlent-list c.table_of-table.ensures c.args.book.now
    (elim c.else-table-ge10.branch [
      | else-table-ge10-via-then-table-ge10+else-book-eq-OPENED w ↦ λ h k. w.if-book-eq-OPENED.false k
      | else-table-ge10-via-else-table-ge10 w ↦ λ h k. absurd (omega arith)
    ])) c.put_english.ensures
