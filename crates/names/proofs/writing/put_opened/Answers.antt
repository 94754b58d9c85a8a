-- The rooms of the list hold its names in the book.
use Rattle.names.proofs.tables.Laws.{put-asked, put-told}
use Rattle.names.proofs.rooms.Lent.{part-holds}
use Rattle.names.proofs.writing.put_opened.Goals as goal

pub put_name-requires : goal.put_name-requires
put_name-requires c =
    let p = put-asked (part-holds c.rooms_of-rooms.ensures c.args.book.now c.requires.opened.0.opened) _ _ _ c.requires.opened.1 c.requires.index_in_bounds in record { most_bound = p.0; index_in_bounds = p.1 }

pub returns : goal.returns
returns c =
    put-told (part-holds c.rooms_of-rooms.ensures c.args.book.now c.requires.opened.0.opened) _ c.requires.opened.1 c.put_name.ensures
