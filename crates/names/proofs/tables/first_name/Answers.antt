use mathlib.Core.Path.{refl, sym, ◌∙◌}
use Prim.Native.Nat.{◌<◌}
use native.Mathlib.Omega.{arith}
use borrow.Author.Rules.{rules}
use lib.ListN.{length}
use Rattle.meaning.specs.Readers.{match_name}
use Rattle.names.specs.Table.{name_in}
use Rattle.names.proofs.tables.Laws.{room, too_long, same_byte, other_byte, all-bytes, other-letter, this-name, next-name, no_name}
use Rattle.names.proofs.tables.first_name.Goals as goal

pub names-init : goal.names-init
unfolding match_name
names-init c = (search rules, refl)

pub names-preserved-then-not-letter_begins : goal.names-preserved-then-not-letter_begins
names-preserved-then-not-letter_begins c =
    let letter = c.letter_begins in
    let a = c.args in
    (search rules, c.names.invariant.1 ∙ next-name a.most a.count a.rows.now a.text.now _ (omega arith) (other-letter _ _ (sym letter.ensures ∙ c.if-not-letter_begins.true)))

pub loop-j-init : goal.loop-j-init
loop-j-init c =
    (refl, search rules, room _ _ _ c.requires.0 (omega arith), refl)

pub names-preserved-then-rows-index : goal.names-preserved-then-rows-index
names-preserved-then-rows-index c =
    let a = c.args in
    let same = c.loop-j.invariant.0 in
    let at = c.loop-j.invariant.2 in
    rw same (
      search rules,
      c.names.invariant.1
          ∙ next-name a.most a.count a.rows.now a.text.now _ c.names-test.true
          (c.loop-j.invariant.3
          ∙ other_byte _ _ c.loop-j.j (omega arith) (omega arith)
          (λ e. c.if-rows-index.true (rw same (sym (at.byte c.loop-j.j (omega arith)) ∙ e)))),
    )

pub loop-j-preserved : goal.loop-j-preserved
loop-j-preserved c =
    let at = c.loop-j.invariant.2 in (
      c.loop-j.invariant.0,
      search rules,
      at,
      c.loop-j.invariant.3
          ∙ same_byte _ _ c.loop-j.j (omega arith) (omega arith)
          (at.byte c.loop-j.j (omega arith) ∙ rw (← c.loop-j.invariant.0) c.if-rows-index.false),
    )

pub returns-then-length-text : goal.returns-then-length-text
returns-then-length-text c =
    rw (
      c.loop-j.invariant.0,
      c.names.invariant.1,
      this-name _ _ _ _ _ c.names-test.true (c.loop-j.invariant.3 ∙ all-bytes _ _ c.loop-j.j (omega arith)),
      c.length_at-length.ensures,
    )

pub names-preserved : goal.names-preserved
names-preserved c =
    let a = c.args in
    let h : length a.text.now < length (name_in a.most a.rows.now c.names.index) = omega arith in
    (search rules, c.names.invariant.1 ∙ next-name a.most a.count a.rows.now a.text.now _ c.names-test.true (too_long _ _ h))

pub returns : goal.returns
returns c = rw (c.names.invariant.1, no_name _ _ _ _ _ c.names-test.false)
