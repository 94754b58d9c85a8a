use mathlib.Core.Path.{refl, ◌∙◌}
use native.Mathlib.Omega.{arith}
use Rattle.pattern.proofs.parts.Next.{starts-here}
use Rattle.pattern.proofs.parts.Walks.{found_in}
use Rattle.rows.proofs.Laying.{laying-start}
use Rattle.rows.proofs.entries.Stored.{stored}
use Rattle.rows.proofs.units.Entries.{entries_from, place, entries-turn, entries-end}
use Rattle.rows.proofs.units.lay_entries.Goals as goal

pub loop-part-init : goal.loop-part-init
loop-part-init c =
    let p = c.args.pattern.now in
    let starts = c.parts_of-part-items.ensures.starts in
    rw (c.into_iter-part-iterator.ensures.into_iter_gives, starts.1) (laying-start place (entries_from p) p c.args.row.now refl, starts.0)

pub part_entry-requires : goal.part_entry-requires
part_entry-requires c =
    starts-here (found_in c.loop-part.invariant.1 c.in-Some.ensures.steps.2.0)

pub loop-part-preserved : goal.loop-part-preserved
loop-part-preserved c =
    let turn = c.in-Some.ensures.steps in
    let n = found_in c.loop-part.invariant.1 turn.2.0 in
    let laid = c.part_entry in
    (rw (c.lay.ensures, stored laid.result laid.type_inv, laid.ensures, turn.2.1) (entries-turn c.loop-part.invariant.0 n), turn.1 ∙ c.loop-part.invariant.1)

pub returns : goal.returns
returns c =
    let end = entries-end (omega arith) (rw c.loop-part.invariant.1 at c.in-None.ensures.steps.2) c.loop-part.invariant.0 in
    (end.0, end.1, c.lay_times.ensures ∙ end.2)
