-- What the match gives.
use lib.ListN.{drop}
use Rattle.laws.proofs.OpenedBooks.{opened-as-many}
use Rattle.meaning.specs.Names.{names}
use Rattle.meaning.specs.OpenedBooks.{book_in}
use Rattle.meaning.specs.Readers.{match_name}
use Rattle.parse.proofs.named.NameParts.{part-named, match-below}
use Rattle.parse.proofs.named.parse_name.Goals as goal

pub named-requires : goal.named-requires
named-requires c =
    let a = c.args in
    let at = a.cursor.at in
    rw (c.match_name.ensures, ← opened-as-many a.book.now a.list) (match-below at _ (drop at a.text.now))

pub returns : goal.returns
returns c =
    let a = c.args in
    let at = a.cursor.at in
    let l = a.list in
    rw (part-named l at (match_name (names (book_in a.book.now) l)) (drop at a.text.now), ← c.match_name.ensures) c.named.ensures
