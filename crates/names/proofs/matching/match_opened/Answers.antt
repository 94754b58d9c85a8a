-- The list's names are those of its table, or those of the rooms.
use borrow.Author.Rules.{rules}
use Rattle.meaning.specs.Names.{english}
use Rattle.names.proofs.rooms.Lent.{part-holds, fixed-list, opened-list}
use Rattle.names.proofs.tables.Laws.{match-told}
use Rattle.names.proofs.matching.match_opened.Goals as goal

pub returns-then-table-lt10 : goal.returns-then-table-lt10
returns-then-table-lt10 c =
    rw (fixed-list c.table_of-table.ensures c.args.book.now (search rules), c.table_of-table.ensures.same english) c.match_english.ensures

pub first_name-requires : goal.first_name-requires
first_name-requires c =
    let t = part-holds c.rooms_of-rooms.ensures c.args.book.now c.requires in (t.short, t.inside)

pub returns : goal.returns
returns c =
    rw (opened-list c.table_of-table.ensures c.args.book.now) (match-told (part-holds c.rooms_of-rooms.ensures c.args.book.now c.requires) _ c.first_name.ensures)
