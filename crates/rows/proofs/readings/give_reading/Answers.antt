-- Each kind of answer has its own way to be given.
use mathlib.Core.Path.{◌≡◌}
use borrow.Author.Rules.{rules}
use lib.ListN.{length}
use Rattle.rows.proofs.readings.Filled.{full, row-long}
use Rattle.rows.proofs.readings.give_reading.Goals as goal

pub returns-in-Ok : goal.returns-in-Ok
returns-in-Ok c =
    let r = c.in-Ok.reading in
    let values : length r.values ≡ 15 = search rules in
    let starts : length r.starts ≡ 15 = search rules in
    let ends : length r.ends ≡ 15 = search rules in
    rw c.in-Ok.is (full 48 (row-long r values starts ends) c.give_values.ensures)
