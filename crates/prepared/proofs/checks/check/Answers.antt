-- By what the row is opened as.
use mir.Syntax.{w32}
use mir.ValLaws.{to_z-of_z}
use Rattle.prepared.proofs.opening.OpenedRows.{opened_nothing, opened-refusal, opened-words, prepared-given, unprepared-given}
use borrow.Author.Rules.{rules}
use Rattle.prepared.proofs.checks.check.Goals as goal

pub returns-in_default : goal.returns-in_default
returns-in_default c = unprepared-given _ _ (opened_nothing c.args.row.now c.«open».ensures c.in_default.is)

pub give_refusal-requires : goal.give_refusal-requires
give_refusal-requires c = (search rules, search rules, (opened-refusal c.args.row.now c.«open».ensures c.in-Some.is c.in-Err.is).fits)

pub check_in_year-requires : goal.check_in_year-requires
check_in_year-requires c = ((opened-words c.args.row.now c.«open».ensures c.in-Some.is c.in-Ok.is).long, search rules)

pub returns-in-Err : goal.returns-in-Err
returns-in-Err c = let o = opened-refusal c.args.row.now c.«open».ensures c.in-Some.is c.in-Err.is in prepared-given o.prepared (rw o.checks c.give_refusal.ensures)

pub returns-in-Ok : goal.returns-in-Ok
returns-in-Ok c =
    let o = opened-words c.args.row.now c.«open».ensures c.in-Some.is c.in-Ok.is in
    prepared-given o.prepared (rw (o.checks, ← to_z-of_z w32 c.args.year c.ranges.year) c.check_in_year.ensures)
