use mathlib.Core.Logic.{inl}
use mathlib.Core.Path.{refl, ap, ◌∙◌}
use borrow.Author.Rules.{rules}
use native.Mathlib.Omega.{arith}
use Rattle.std.specs.Iterator.Adapters.{enumerate_source}
use Rattle.laws.proofs.Lists.{end-inside}
use Rattle.lists.specs.LentRows.{rows_in}
use Rattle.lists.specs.declared.lines.Places.{Places}
use Rattle.lists.proofs.cells.Stored.{held, same-then, nothing_walked, cell-left, line-walked, few-left, turned, nothing_read, line-stored, all_laid}
use Rattle.lists.proofs.cells.lay_lines.Goals as goal

pub loop-i-init-derived : goal.loop-i-init-derived
loop-i-init-derived g c =
    let s = c.args.text.now in
    let old = rows_in c.args.rows.now in
    let starts = c.line_reader.ensures in
    let items = c.enumerate-i-items.ensures in
    let few = few-left s old old 0 0 (nothing_walked s old (held _ _ c.requires.room)) in
    rw (c.into_iter-i-iterator.ensures.into_iter_gives, items.source, items.count, starts.0, starts.1) ((tt, tt, inl (omega (arith, few))), tt)

pub loop-i-init : goal.loop-i-init
loop-i-init g c =
    let s = c.args.text.now in
    let old = rows_in c.args.rows.now in
    let starts = c.line_reader.ensures in
    let items = c.enumerate-i-items.ensures in
    rw (c.into_iter-i-iterator.ensures.into_iter_gives, items.source, items.count, starts.0, starts.1) (
      nothing_walked s old (held _ _ c.requires.room),
      search rules,
      refl,
      record { days = refl; months = refl; years = refl; codes = refl },
      λ reading stands. nothing_read reading s old,
    )

pub slice_bounds-read-end : goal.slice_bounds-read-end
slice_bounds-read-end g c =
    let t = turned c.args.text.now (enumerate_source c.loop-i.i-iterator) c.in-Some.line (enumerate_source c.next.new.self) c.loop-i.invariant.2 c.in-Some.ensures.steps.0 in
    let start = ap (λ (line : Places). line.start) t.places in
    let end = ap (λ (line : Places). line.end) t.places in
    omega (arith, start, end, end-inside c.args.text.now (enumerate_source c.loop-i.i-iterator).at (omega (arith, t.inside)))

pub lay-requires-clause-room : goal.lay-requires-clause-room
lay-requires-clause-room g c =
    let t = turned c.args.text.now (enumerate_source c.loop-i.i-iterator) c.in-Some.line (enumerate_source c.next.new.self) c.loop-i.invariant.2 c.in-Some.ensures.steps.0 in
    rw c.in-Some.ensures.steps.1 (cell-left _ _ _ _ _ c.loop-i.invariant.0 t.inside)

pub loop-i-preserved : goal.loop-i-preserved
loop-i-preserved g c =
    let s = c.args.text.now in
    let L = c.loop-i in
    let steps = c.in-Some.ensures.steps in
    let t = turned s (enumerate_source L.i-iterator) c.in-Some.line (enumerate_source c.next.new.self) L.invariant.2 steps.0 in
    let walked = line-walked _ _ _ _ _ L.invariant.0 t.inside c.read-code.result c.read-code.new.arg3 in (
      rw (c.lay.ensures.laid, t.next, steps.2, steps.1) walked,
      c.read-code.auto.arg3 ∙ L.invariant.1,
      t.same,
      same-then L.invariant.3 c.lay.ensures.same,
      λ reading stands.
          let cells = stands _ _ _ _ L.invariant.1 c.read-code.ensures in
          rw (c.lay.ensures.laid, t.next, steps.2, steps.1)
          (line-stored reading _ _ _ _ _ (L.invariant.4 reading stands) t.inside c.read-code.result c.read-code.new.arg3 (rw t.places at cells)),
    )

pub returns-clause-laid : goal.returns-clause-laid
returns-clause-laid g c reading stands =
    let L = c.loop-i in
    all_laid reading _ _ _ _ _ (L.invariant.4 reading stands) (rw L.invariant.2 at c.in-None.ensures.steps.0.2)
