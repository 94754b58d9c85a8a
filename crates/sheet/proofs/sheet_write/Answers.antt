-- The writer of its pair, once the bits of the signed fields are taken away.
use mir.Syntax.{w32}
use mir.ValLaws.{to_z-of_z}
use Rattle.meaning.proofs.Books.{english-unopened}
use Rattle.sheet.proofs.sheet_write.Goals as goal

pub returns : goal.returns
returns c =
    let s = c in
    rw (to_z-of_z w32 s.args.year s.ranges.year, to_z-of_z w32 s.args.offset s.ranges.offset, english-unopened) at c.write.ensures
