-- Each entry by itself.
use borrow.Author.Rules.{rules}
use mir.Facts.{to_z_pos}
use mir.Syntax.{w64}
use native.Mathlib.Omega.{arith}
use lib.Count.{ones, ones-le}
use Rattle.word_reader.proofs.keeping.finish.Goals as goal

pub returns : goal.returns
returns c =
    rw (
      to_z_pos w64 {n = c.args.at} (omega (arith, c.requires.1)),
      to_z_pos w64 {n = c.args.mask} (search rules),
      to_z_pos w64 {n = ones c.args.mask} (omega (arith, ones-le 16 c.args.mask (search rules))),
    )
