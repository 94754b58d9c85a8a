-- By what the row is opened as.
use mathlib.Core.Path.{◌≡◌}
use native.Mathlib.Omega.{arith}
use mir.Syntax.{w32}
use mir.ValLaws.{to_z-of_z}
use Rattle.lists.specs.LentRows.{rows_in}
use Rattle.meaning.specs.Lists.{rows_of}
use Rattle.prepared.specs.Uses.{prepared_rows}
use Rattle.prepared.proofs.listing.ListSteps.{steps-list-fits}
use Rattle.prepared.proofs.opening.OpenedRows.{opened_nothing, opened-refusal, opened-words, prepared-given, unprepared-given, tail-length}
use Rattle.meaning.specs.Prepared.{list_steps_check, read_list_steps, list_rows_steps}
use borrow.Author.Rules.{rules}
use Rattle.prepared.proofs.listing.read_list.Goals as goal

pub returns-in_default : goal.returns-in_default
returns-in_default c =
    let no' = opened_nothing c.args.row.now c.«open».ensures c.in_default.is in
    (unprepared-given _ _ no', rw no')

pub give_refusal-requires : goal.give_refusal-requires
give_refusal-requires c = (search rules, search rules, (opened-refusal c.args.row.now c.«open».ensures c.in-Some.is c.in-Err.is).fits)

pub slice_bounds-list_in_year-end : goal.slice_bounds-list_in_year-end
slice_bounds-list_in_year-end c = (opened-words c.args.row.now c.«open».ensures c.in-Some.is c.in-Ok.is).long

pub list_in_year-requires : goal.list_in_year-requires
list_in_year-requires c =
    let o = opened-words c.args.row.now c.«open».ensures c.in-Some.is c.in-Ok.is in
    omega (arith, o.few, tail-length c.args.row.now o.long)

pub give_counted-requires : goal.give_counted-requires
give_counted-requires c =
    let a = c.args in
    let rows = rows_of a.days.now a.months.now a.years.now a.codes.now in
    let listed = rw (to_z-of_z w32 a.year c.ranges.year) at c.list_in_year.ensures.listed in
    (search rules, rw listed (steps-list-fits a.choices a.text.now a.year rows c.ranges.year (omega arith)))

pub returns-in-Err : goal.returns-in-Err
unfolding read_list_steps list_rows_steps list_steps_check
returns-in-Err c =
    let o = opened-refusal c.args.row.now c.«open».ensures c.in-Some.is c.in-Err.is in
    (prepared-given o.prepared (rw o.checks c.give_refusal.ensures), rw (o.prepared, o.checks))

pub returns-in-Ok : goal.returns-in-Ok
returns-in-Ok c =
    let o = opened-words c.args.row.now c.«open».ensures c.in-Some.is c.in-Ok.is in
    let year = to_z-of_z w32 c.args.year c.ranges.year in
    let listed = rw year at c.list_in_year.ensures.listed in
    let rows = rw year at c.list_in_year.ensures.rows in
    let a = c.args in
    let laid : rows_in c.list_in_year.new.rows ≡ prepared_rows a.choices a.book.now a.row.now a.text.now a.year (rows_of a.days.now a.months.now a.years.now a.codes.now) = rw (o.prepared, o.checks, ← o.uses) rows in
    (prepared-given o.prepared (rw (o.checks, ← listed) c.give_counted.ensures), search rules)
