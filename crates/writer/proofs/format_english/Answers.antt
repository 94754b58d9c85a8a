-- An empty row stands for the English book.
use Rattle.meaning.proofs.Books.{english-unopened}
use Rattle.writer.proofs.format_english.Goals as goal

pub returns : goal.returns
returns c =
    rw (← english-unopened) c.format_with.ensures
