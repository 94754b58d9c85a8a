-- Each number in turn, from where the one before it ends.
use borrow.Author.Rules.{rules}
use Rattle.parse.proofs.cursor.Moves.{left_by}
use lib.ListN.{drop}
use mathlib.Core.Path.{sym, ◌∙◌}
use mir.Syntax.{w64}
use mir.ValLaws.{to_z-of_z}
use native.Mathlib.Nat.{add-zero}
use Rattle.meaning.specs.Readers.{take_count}
use Rattle.meaning.specs.Reading.{zone_group}
use Rattle.parse.proofs.steps.Within.{within_count}
use Rattle.parse.proofs.zones.Within.{counted-stays, within-group}
use Rattle.parse.proofs.zones.Zoning.{counted-then}
use Rattle.parse.proofs.zones.zone_from.Goals as goal

pub zone_group-requires : goal.zone_group-requires
zone_group-requires c =
    let a = c.args in
    let at = a.cursor.at in
    let text = a.text.now in
    let s = drop at text in
    counted-stays at text (take_count 2 s) c.requires (within_count 2 s) (sym c.take_count.ensures ∙ c.in_ok-hours.was)

pub zone_group-requires-2 : goal.zone_group-requires-2
zone_group-requires-2 c =
    let a = c.args in
    let at = a.cursor.at in
    let text = a.text.now in
    let s = drop at text in
    let inside = counted-stays at text (take_count 2 s) c.requires (within_count 2 s) (sym c.take_count.ensures ∙ c.in_ok-hours.was) in
    let next = c.in_ok-hours.hours.next.at in
    counted-stays next text (zone_group a.zone.colon a.zone.minutes (drop next text)) inside (within-group a.zone.colon a.zone.minutes (drop next text))
    (sym c.zone_group.ensures ∙ c.in_ok-minutes.was)

pub returns-in_err-hours : goal.returns-in_err-hours
returns-in_err-hours c =
    let a = c.args in
    rw (counted-then a.cursor.at a.text.now, ← c.take_count.ensures, c.in_err-hours.was) (left_by c.from_residual.ensures.1)

pub returns-in_err-minutes : goal.returns-in_err-minutes
returns-in_err-minutes c =
    let a = c.args in
    rw (counted-then a.cursor.at a.text.now, ← c.take_count.ensures, c.in_ok-hours.was, counted-then, ← c.zone_group.ensures, c.in_err-minutes.was) (left_by c.from_residual-in_err-minutes.ensures.1)

pub returns-in_err-seconds : goal.returns-in_err-seconds
returns-in_err-seconds c =
    let a = c.args in
    rw (counted-then a.cursor.at a.text.now, ← c.take_count.ensures, c.in_ok-hours.was, counted-then, ← c.zone_group.ensures, c.in_ok-minutes.was, counted-then, ← c.zone_group-2.ensures, c.in_err-seconds.was) (left_by c.from_residual-in_err-seconds.ensures.1)

pub returns : goal.returns
returns c =
    let a = c.args in
    rw (counted-then a.cursor.at a.text.now, ← c.take_count.ensures, c.in_ok-hours.was, counted-then, ← c.zone_group.ensures, c.in_ok-minutes.was, counted-then, ← c.zone_group-2.ensures, c.in_ok-seconds.was, add-zero, to_z-of_z w64 c.integer_of.result (search rules), c.integer_of.ensures)
