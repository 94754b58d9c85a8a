-- The year of the cycle, so many cycles on.
use mathlib.Core.Path.{sym, ◌∙◌}
use Rattle.calendar.proofs.line.Cycles.{same-leap, cycle-on}
use borrow.Author.Rules.{rules}
use Rattle.calendar.proofs.line.year_on_line.Goals as goal

pub returns : goal.returns
returns c =
    let n = c.args.n in
    let f = c.year_of-found in (
      cycle-on n f.result.place f.result.past (search rules) f.ensures.0,
      f.ensures.1 ∙ sym (same-leap n f.result.place f.result.past),
    )
