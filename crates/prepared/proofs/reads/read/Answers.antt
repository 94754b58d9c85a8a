-- By what the row is opened as.
use native.Mathlib.Omega.{arith}
use mir.Syntax.{w32}
use mir.ValLaws.{to_z-of_z}
use Rattle.prepared.proofs.opening.OpenedRows.{opened_nothing, opened-refusal, opened-words, prepared-given, unprepared-given, tail-length}
use Rattle.meaning.specs.Prepared.{read_steps}
use borrow.Author.Rules.{rules}
use Rattle.prepared.proofs.reads.read.Goals as goal

pub returns-in_default : goal.returns-in_default
returns-in_default c = unprepared-given _ _ (opened_nothing c.args.row.now c.«open».ensures c.in_default.is)

pub give_refusal-requires : goal.give_refusal-requires
give_refusal-requires c = (search rules, search rules, (opened-refusal c.args.row.now c.«open».ensures c.in-Some.is c.in-Err.is).fits)

pub slice_bounds-read_in_year-end : goal.slice_bounds-read_in_year-end
slice_bounds-read_in_year-end c = (opened-words c.args.row.now c.«open».ensures c.in-Some.is c.in-Ok.is).long

pub read_in_year-requires : goal.read_in_year-requires
read_in_year-requires c =
    let o = opened-words c.args.row.now c.«open».ensures c.in-Some.is c.in-Ok.is in
    (omega (arith, o.few, tail-length c.args.row.now o.long), search rules)

pub returns-in-Err : goal.returns-in-Err
unfolding read_steps
returns-in-Err c = let o = opened-refusal c.args.row.now c.«open».ensures c.in-Some.is c.in-Err.is in prepared-given o.prepared (rw o.checks c.give_refusal.ensures)

pub returns-in-Ok : goal.returns-in-Ok
returns-in-Ok c =
    let o = opened-words c.args.row.now c.«open».ensures c.in-Some.is c.in-Ok.is in
    prepared-given o.prepared (rw (o.checks, ← o.uses, ← to_z-of_z w32 c.args.year c.ranges.year) c.read_in_year.ensures)
