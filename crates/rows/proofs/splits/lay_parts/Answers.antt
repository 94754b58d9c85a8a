use mathlib.Core.Path.{refl, ap, ◌∙◌}
use native.Mathlib.Omega.{arith}
use borrow.Author.Rules.{rules}
use Rattle.meaning.specs.declared.Part.{Part}
use Rattle.pattern.proofs.parts.Walks.{found_in}
use Rattle.rows.proofs.Laying.{laying-start}
use Rattle.rows.proofs.splits.Parts.{numbers_from, place, parts-turn, parts-end}
use Rattle.rows.proofs.splits.lay_parts.Goals as goal

pub loop-part-init : goal.loop-part-init
loop-part-init c =
    let p = c.args.pattern.now in
    let starts = c.parts_of-part-items.ensures.starts in
    rw (c.into_iter-part-iterator.ensures.into_iter_gives, starts.1) (laying-start place (numbers_from p) p c.args.row.now refl, starts.0)

pub lay_part-requires : goal.lay_part-requires
lay_part-requires c =
    let n = found_in c.loop-part.invariant.1 c.in-Some.ensures.steps.2.0 in
    let start = ap (λ (part : Part). part.start) n.itself in
    let laying = c.loop-part.invariant.0 in
    (search rules, omega arith, omega arith)

pub loop-part-preserved : goal.loop-part-preserved
loop-part-preserved c =
    let turn = c.in-Some.ensures.steps in
    let n = found_in c.loop-part.invariant.1 turn.2.0 in
    (rw (c.lay_part.ensures, turn.2.1) (parts-turn c.loop-part.invariant.0 n), turn.1 ∙ c.loop-part.invariant.1)

pub shape_of-row : goal.shape_of-row
shape_of-row c = omega (arith, c.lay_zeros.auto.row)

pub returns : goal.returns
returns c =
    let end = parts-end (omega arith) (rw c.loop-part.invariant.1 at c.in-None.ensures.steps.2) c.loop-part.invariant.0 in
    (end.0, end.1, c.lay_zeros.ensures ∙ end.2)
