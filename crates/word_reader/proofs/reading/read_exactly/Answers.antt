-- What the checks of the text say, and else the pieces.
use borrow.Author.Rules.{rules}
use mathlib.Core.Path.{sym, ◌∙◌}
use mir.Syntax.{w32}
use mir.ValLaws.{to_z-of_z}
use native.Mathlib.Omega.{arith}
use Rattle.laws.proofs.Checks.{text-short}
use Rattle.rows.proofs.Fits.{text-fits}
use Rattle.word_reader.proofs.reading.read_exactly.Goals as goal

pub read_pieces-requires : goal.read_pieces-requires
read_pieces-requires c = let s = c in (s.requires.0, text-short _ (sym c.text_check.ensures ∙ c.in-Ok.is), s.requires.1)

pub give_refusal-requires : goal.give_refusal-requires
give_refusal-requires c =
    let s = c in
    (omega arith, s.requires.1, rw (sym c.text_check.ensures ∙ c.in-Err.is) at (text-fits s.args.text.now (omega arith)))

pub returns-in-Ok : goal.returns-in-Ok
returns-in-Ok c =
    let s = c in
    let year = rw (to_z-of_z w32 s.args.year (search rules)) at c.size.ensures in
    rw (sym c.text_check.ensures ∙ c.in-Ok.is) (rw year at c.read_pieces.ensures)

pub returns-in-Err : goal.returns-in-Err
returns-in-Err c = rw (sym c.text_check.ensures ∙ c.in-Err.is) c.give_refusal.ensures
