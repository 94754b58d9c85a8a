-- The name is there, and it is written.
use Rattle.laws.proofs.Fields.{allowed}
use Rattle.laws.proofs.OpenedBooks.{opened-there}
use Rattle.meaning.specs.Writing.{name_text}
use Rattle.format.proofs.symbols.put_name_of.Goals as goal

pub format_name-requires-clause-index_in_bounds : goal.format_name-requires-clause-index_in_bounds
format_name-requires-clause-index_in_bounds c =
    rw c.place_of-place.ensures (opened-there c.args.book.now c.args.names c.args.f (allowed c.args.f c.requires.f_value))

pub format_name-requires-clause-index_in_bounds_2 : goal.format_name-requires-clause-index_in_bounds_2
unfolding name_text
format_name-requires-clause-index_in_bounds_2 c = rw c.place_of-place.ensures c.requires.f_in_bounds

pub returns : goal.returns
unfolding name_text
returns c = rw (← c.place_of-place.ensures) c.format_name.ensures
