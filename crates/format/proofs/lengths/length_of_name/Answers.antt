-- The name is there, and it is measured.
use Rattle.laws.proofs.Fields.{allowed}
use Rattle.laws.proofs.OpenedBooks.{opened-there}
use Rattle.meaning.specs.Writing.{name_text}
use Rattle.format.proofs.lengths.length_of_name.Goals as goal

pub name_length-requires : goal.name_length-requires
name_length-requires c =
    rw c.place_of.ensures (opened-there c.args.book.now c.args.names c.args.f (allowed c.args.f c.requires))

pub returns : goal.returns
unfolding name_text
returns c = rw (← c.place_of.ensures) c.name_length.ensures
