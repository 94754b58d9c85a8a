-- Hours, minutes and seconds, each in its turn.
use borrow.Author.Tests.{eq-eqb, ne_eqb}
use mathlib.Core.Path.{sym, ◌∙◌}
use Rattle.laws.proofs.Tests.{true-is-not-false}
use Rattle.laws.proofs.Zones.{zero-each}
use Rattle.format.proofs.zones.is_nothing.Goals.{then-n-eq0, else-n-eq0}
use Rattle.format.proofs.zones.is_nothing.Goals as goal

pub returns-then-is_zero : goal.returns-then-is_zero
returns-then-is_zero c =
    let colon = c.args.zone.colon in
    elim c.if-n-eq0.branch [
      | then-n-eq0 w ↦
          rw (zero-each, eq-eqb _ 0 w.if-n-eq0.true, ← w.is_zero.ensures colon, ← w.value-is, c.if-is_zero.true)
          (c.is_zero-then-is_zero.ensures colon)
      | else-n-eq0 w ↦ true-is-not-false (sym c.if-is_zero.true ∙ w.value-is ∙ ne_eqb _ 0 w.if-n-eq0.false)
    ]

pub returns-else-is_zero : goal.returns-else-is_zero
returns-else-is_zero c =
    let colon = c.args.zone.colon in
    elim c.if-n-eq0.branch [
      | then-n-eq0 w ↦ rw (zero-each, eq-eqb _ 0 w.if-n-eq0.true, ← w.is_zero.ensures colon, ← w.value-is, c.if-is_zero.false)
      | else-n-eq0 w ↦ rw (zero-each, ne_eqb _ 0 w.if-n-eq0.false, c.if-is_zero.false)
    ]
