-- A year has at most seven digits and a sign, or as many digits as are asked for.
use mir.Syntax.{w32}
use mir.ValLaws.{to_z-of_z}
use borrow.Author.Rules.{rules}
use native.Mathlib.Omega.{arith}
use Rattle.word_writer.proofs.Bounds.{year-length}
use Rattle.word_writer.proofs.measuring.years_length.Goals as goal

pub year_length-requires : goal.year_length-requires
year_length-requires c =
    rw (to_z-of_z w32 c.args.f.year (search rules))
    (omega (arith, year-length c.args.digits c.args.f c.requires.0, c.requires.1))

pub returns : goal.returns
returns c =
    let e = to_z-of_z w32 c.args.f.year (search rules) in
    let long = rw e at c.year_length.ensures in
    (long, omega (arith, long, year-length c.args.digits c.args.f c.requires.0, c.requires.1))
