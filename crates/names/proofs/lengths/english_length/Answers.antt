-- The rows of the table hold the names of its list.
use mathlib.Core.Path.{◌∙◌}
use Rattle.names.proofs.tables.Laws.{index-asked, length-told}
use Rattle.names.proofs.lengths.english_length.Goals as goal

pub length_at-requires : goal.length_at-requires
length_at-requires c = rw c.most_of.ensures (index-asked c.rows_of.ensures.held _ c.requires.1)

pub returns : goal.returns
returns c = rw c.most_of.ensures at c.length_at.ensures ∙ length-told c.rows_of.ensures.held _ c.requires.1
