-- A row of another size stands for the English book.
use borrow.Author.Rules.{rules}
use Rattle.names.proofs.rooms.Lent.{lent-english}
use Rattle.names.proofs.matching.match_name.Goals as goal

pub returns : goal.returns
returns c =
    rw (lent-english c.args.book.now (search rules)) c.match_english.ensures
