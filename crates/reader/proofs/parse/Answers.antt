-- The full pair. An empty row stands for the English book.
use borrow.Author.Rules.{rules}
use mir.Syntax.{w32}
use mir.ValLaws.{to_z-of_z}
use Rattle.meaning.proofs.Books.{english-unopened}
use Rattle.reader.proofs.parse.Goals as goal

pub returns : goal.returns
returns c =
    let same = to_z-of_z w32 c.args.year (search rules) in
    rw (← same, ← english-unopened) (rw c.plain.ensures at c.parse_with.ensures)
