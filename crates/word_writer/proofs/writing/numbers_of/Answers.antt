-- Each number of an allowed record in its place.
use borrow.Author.Rules.{rules}
use mathlib.Core.Path.{◌≡◌, sym, ◌∙◌}
use mir.Syntax.{w32}
use mir.ValLaws.{to_z-of_z}
use native.Mathlib.Omega.{arith}
use Rattle.laws.proofs.Fields.{allowed}
use Rattle.meaning.specs.Writing.{quantity_of}
use Rattle.word_writer.specs.Written.{plain_year, numbers_of}
use Rattle.word_writer.proofs.writing.numbers_of.Goals as goal
use Rattle.word_writer.proofs.writing.numbers_of.Goals.{then-is_negative, else-is_negative}

pub second_of_day-second-requires : goal.second_of_day-second-requires
second_of_day-second-requires c = omega (arith, allowed c.args.f c.requires)

pub returns : goal.returns
unfolding numbers_of quantity_of
returns c =
    let e = to_z-of_z w32 c.args.f.year (search rules) in
    let sign = rw e at c.is_negative.ensures in
    let year : c.if-is_negative.year ≡ plain_year c.args.f = elim c.if-is_negative.branch [
      | then-is_negative w ↦ w.year-is ∙ rw (sym sign ∙ w.if-is_negative.true)
      | else-is_negative w ↦ w.year-is ∙ rw (sym sign ∙ w.if-is_negative.false) (rw e at w.size-year.ensures)
    ] in
    rw (year, c.second_of_day-second.ensures)
