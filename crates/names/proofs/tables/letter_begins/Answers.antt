-- Letters that are the same are told at once; where they are not, or the text is empty, the room tells whether it has any.
use mathlib.Core.Path.{sym, ◌∙◌}
use native.Mathlib.Omega.{arith}
use borrow.Author.Tests.{eq-eqb}
use Rattle.names.proofs.tables.Laws.{room, letter-same, letter-none, letter-apart}
use Rattle.names.proofs.tables.letter_begins.Goals as goal
use Rattle.names.proofs.tables.letter_begins.Goals.{else-text-gt0-via-then-text-gt0+else-rows-index, else-text-gt0-via-else-text-gt0}

pub returns-then-rows-index : goal.returns-then-rows-index
returns-then-rows-index c =
    let a = c.args in
    sym (letter-same _ _ a.text.now _ (room a.most a.rows.now a.index c.requires.0 c.requires.1) c.if-text-gt0.true c.if-rows-index.true)

pub returns-then-most-eq0 : goal.returns-then-most-eq0
returns-then-most-eq0 c =
    let a = c.args in
    eq-eqb _ _ c.if-most-eq0.true
    ∙ sym (letter-none _ _ a.text.now _ (room a.most a.rows.now a.index c.requires.0 c.requires.1)
    (elim c.else-text-gt0.branch [
      | else-text-gt0-via-then-text-gt0+else-rows-index w ↦ λ h e. w.if-rows-index.false e
      | else-text-gt0-via-else-text-gt0 w ↦ λ h e. absurd (omega arith)
    ]) c.if-most-eq0.true)

pub returns-else-most-eq0 : goal.returns-else-most-eq0
returns-else-most-eq0 c =
    let a = c.args in
    sym (letter-apart _ _ a.text.now _ (room a.most a.rows.now a.index c.requires.0 c.requires.1)
    (elim c.else-text-gt0.branch [
      | else-text-gt0-via-then-text-gt0+else-rows-index w ↦ λ h e. w.if-rows-index.false e
      | else-text-gt0-via-else-text-gt0 w ↦ λ h e. absurd (omega arith)
    ]) c.if-most-eq0.false)
