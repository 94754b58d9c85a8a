-- What is found on the line is the day.
use mathlib.Core.Path.{◌≡◌}
use Prim.Native.Nat.{◌<◌}
use native.Mathlib.Omega.{arith}
use mir.Facts.{to_z-of_z}
use Rattle.calendar.proofs.Found.{near-places, day-found}
use Rattle.calendar.proofs.line.Signed.{year-fits}
use Rattle.laws.specs.CalendarLine.{line, InYear}
use Rattle.meaning.specs.Calendar.{year_length}
use Rattle.calendar.proofs.day_of.Goals as goal

pub week_of-requires : goal.week_of-requires
week_of-requires c =
    let z = c.args.number in
    let r = c.year_on_line-found.result in
    let line-is : c.on_line-n.result ≡ line c.args.number = rw (to_z-of_z c.ranges.number) at c.on_line-n.ensures in
    let found : InYear 11760000 (line z) r.place r.past = rw line-is at c.year_on_line-found.ensures.0 in
    let near = near-places z r.place r.past c.ranges.number.sfits found in
    let inside : r.past < year_length r.leap = rw c.year_on_line-found.ensures.1 c.year_on_line-found.ensures.0.inside in
    let s = c.since_monday-since.ensures in
    (omega (arith, near), omega (arith, near), c.year_on_line-found.ensures.1, inside, omega arith)

pub returns : goal.returns
returns c =
    let z = c.args.number in
    let r = c.year_on_line-found.result in
    let line-is : c.on_line-n.result ≡ line c.args.number = rw (to_z-of_z c.ranges.number) at c.on_line-n.ensures in
    let found : InYear 11760000 (line z) r.place r.past = rw line-is at c.year_on_line-found.ensures.0 in
    let m = c.month_of-in_month in
    let s = c.since_monday-since.ensures in
    rw (c.year_at.ensures, to_z-of_z (year-fits r.place found.known), s, line-is)
    (day-found z c.ranges.number.sfits r.place r.past m.result.month m.result.day
    c.week_of.result found (rw c.year_on_line-found.ensures.1 at m.ensures) (rw (s, line-is) at c.week_of.ensures))
