-- What the take gives, counted.
use borrow.Author.Rules.{rules}
use Rattle.parse.proofs.cursor.Moves.{left_by}
use lib.ListN.{drop}
use mir.Syntax.{w64}
use mir.ValLaws.{to_z-of_z}
use Rattle.parse.proofs.years.YearParts.{part-year}
use Rattle.parse.proofs.years.take_year.Goals as goal

pub returns-in_err-number : goal.returns-in_err-number
returns-in_err-number c =
    let a = c.args in
    let at = a.cursor.at in
    let text = a.text.now in
    let s = drop at text in
    rw (part-year a.edition a.since a.k at s, ← c.take.ensures, c.in_err-number.was) (left_by c.from_residual.ensures.1)

pub returns : goal.returns
returns c =
    let a = c.args in
    let at = a.cursor.at in
    let text = a.text.now in
    let s = drop at text in
    rw (
      part-year a.edition a.since a.k at s,
      ← c.take.ensures,
      c.in_ok-number.was,
      to_z-of_z w64 c.counted-value.result (search rules),
      c.counted-value.ensures,
    )
