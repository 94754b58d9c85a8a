-- The rooms of the list hold its names in the book.
use mathlib.Core.Path.{◌∙◌}
use Rattle.names.proofs.tables.Laws.{index-asked, length-told}
use Rattle.names.proofs.rooms.Lent.{part-holds}
use Rattle.names.proofs.lengths.opened_length.Goals as goal

pub length_at-requires : goal.length_at-requires
length_at-requires c =
    index-asked (part-holds c.rooms_of-rooms.ensures c.args.book.now c.requires.0.opened) _ c.requires.1

pub returns : goal.returns
returns c =
    c.length_at.ensures ∙ length-told (part-holds c.rooms_of-rooms.ensures c.args.book.now c.requires.0.opened) _ c.requires.1
