-- By the place of the year.
use mathlib.Core.Path.{◌≡◌, sym, ◌∙◌}
use mir.Facts.{to_z-of_z}
use Rattle.calendar.proofs.numbers.Places.{Placed, placed, unplaced}
use Rattle.calendar.specs.Places.{place_of}
use Rattle.laws.proofs.Told.{by_whole}
use Rattle.calendar.proofs.day_number.Goals as goal

pub returns-in-None : goal.returns-in-None
returns-in-None c =
    let a = c.args in
    let place_is : c.place_of.result ≡ place_of a.year = rw (to_z-of_z c.ranges.year) at c.place_of.ensures in
    by_whole (unplaced a.year a.month a.day (sym place_is ∙ c.in-None.is))

pub returns-in-Some : goal.returns-in-Some
returns-in-Some c =
    let a = c.args in
    let place_is : c.place_of.result ≡ place_of a.year = rw (to_z-of_z c.ranges.year) at c.place_of.ensures in
    let known : Placed a.year a.month a.day c.in-Some.place = placed a.year a.month a.day c.in-Some.place (sym place_is ∙ c.in-Some.is) in
    by_whole (c.number_at.ensures ∙ known.number)
