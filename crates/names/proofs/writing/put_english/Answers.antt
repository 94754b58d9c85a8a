-- The rows of the table hold the names of its list.
use Rattle.names.proofs.tables.Laws.{put-asked, put-told}
use Rattle.names.proofs.writing.put_english.Goals as goal

pub put_name-requires : goal.put_name-requires
put_name-requires c =
    let p = put-asked c.rows_of.ensures.held _ _ _ c.requires.english.1 c.requires.index_in_bounds in
    rw c.most_of.ensures (record { most_bound = p.0; index_in_bounds = p.1 })

pub returns : goal.returns
returns c = put-told c.rows_of.ensures.held _ c.requires.english.1 (rw c.most_of.ensures at c.put_name.ensures)
