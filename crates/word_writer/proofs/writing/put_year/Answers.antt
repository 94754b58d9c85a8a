-- The year of the record, once the bits are taken away.
use borrow.Author.Rules.{rules}
use mir.Syntax.{w32}
use mir.ValLaws.{to_z-of_z}
use Rattle.word_writer.proofs.writing.put_year.Goals as goal

pub returns : goal.returns
returns c =
    let told = c in
    let a = told in
    rw (to_z-of_z w32 a.args.f.year (search rules)) at c.zero_padded_i.ensures
