-- By what the row is opened as.
use Prim.Native.Nat.{◌≤◌}
use native.Mathlib.Omega.{arith}
use lib.ListN.{length, take, length-take}
use Rattle.prepared.proofs.opening.OpenedRows.{opened_nothing, opened-refusal, opened-words, prepared-given, unprepared-given, tail-length}
use Rattle.prepared.proofs.writes.Fitting.{write-fits}
use Rattle.meaning.specs.Prepared.{write_steps_check, write_steps, output_steps}
use Rattle.words.specs.Rows.{tail}
use borrow.Author.Rules.{rules}
use Rattle.prepared.proofs.writes.write.Goals as goal

pub returns-in_default : goal.returns-in_default
returns-in_default c =
    let no' = opened_nothing c.args.row.now c.«open».ensures c.in_default.is in
    (unprepared-given _ _ no', rw no')

pub give_refusal-requires : goal.give_refusal-requires
give_refusal-requires c = (search rules, search rules, (opened-refusal c.args.row.now c.«open».ensures c.in-Some.is c.in-Err.is).fits)

pub slice_bounds-write_words-end : goal.slice_bounds-write_words-end
slice_bounds-write_words-end c = (opened-words c.args.row.now c.«open».ensures c.in-Some.is c.in-Ok.is).long

pub write_words-requires : goal.write_words-requires
write_words-requires c =
    let o = opened-words c.args.row.now c.«open».ensures c.in-Some.is c.in-Ok.is in
    record { used_in_bounds = omega (arith, o.few, tail-length c.args.row.now o.long); used_bound = omega (arith, o.few) }

pub give_counted-requires : goal.give_counted-requires
give_counted-requires c =
    let s = c in
    let row = s.args.row.now in
    let o = opened-words c.args.row.now c.«open».ensures c.in-Some.is c.in-Ok.is in
    let ws = take c.in-Ok.used (tail row) in
    let few : length ws ≤ 256 = omega (arith, o.few, length-take c.in-Ok.used (tail row)) in
    (search rules, rw c.write_words.ensures.0 (write-fits s.args.book.now (tail row) ws s.args.f s.args.out.now few (omega arith)))

pub returns-in-Err : goal.returns-in-Err
unfolding write_steps output_steps write_steps_check
returns-in-Err c =
    let o = opened-refusal c.args.row.now c.«open».ensures c.in-Some.is c.in-Err.is in
    (prepared-given o.prepared (rw o.checks c.give_refusal.ensures), rw (o.prepared, o.checks))

pub returns-in-Ok : goal.returns-in-Ok
returns-in-Ok c =
    let o = opened-words c.args.row.now c.«open».ensures c.in-Some.is c.in-Ok.is in
    let wrote = c.write_words.ensures in
    (prepared-given o.prepared (rw (o.checks, ← o.uses, ← wrote.0) c.give_counted.ensures), rw (o.prepared, o.checks, ← o.uses) wrote.1)
