-- The reader of its pair, once the bits of the year are taken away.
use mir.Syntax.{w32}
use mir.ValLaws.{to_z-of_z}
use Rattle.meaning.proofs.Books.{english-unopened}
use Rattle.sheet.proofs.sheet_read_date.Goals as goal

pub returns : goal.returns
returns c =
    let s = c in
    rw (to_z-of_z w32 s.args.year s.ranges.year, c.plain.ensures, english-unopened) at c.read.ensures
