-- Compared where it is asked for and the bytes are there, then passed over.
use lib.ListN.{length, length-map}
use mathlib.Core.Path.{sym, ◌∙◌}
use Prim.Native.Nat.{◌%◌}
use Rattle.word_reader.proofs.exact.Literals.{low_bytes, unseen-passes, short-passes, same-passes, differs-stops}
use Rattle.word_reader.proofs.exact.read_held.Goals as goal
use Rattle.word_reader.proofs.exact.read_held.Goals.{then-strict+then-count-text+in_default, else-strict, else-strict-via-then-strict+else-count-text, else-strict-via-else-strict}

pub returns-in-Some : goal.returns-in-Some
returns-in-Some c = let s = c in
    let held = s.args.held.now in
    let text = s.args.text.now in
    let at = s.args.cursor.at in
    rw c.differs.ensures
    (differs-stops (low_bytes held) text at (length held) (length-map held (λ w. w % 256)) c.if-strict.true c.if-count-text.true (sym c.compare_held.ensures ∙ c.in-Some.is))

pub returns : goal.returns
returns c =
    let s = c in
    let held = s.args.held.now in
    let text = s.args.text.now in
    let at = s.args.cursor.at in
    let n = length held in
    let w = low_bytes held in
    let long = length-map held (λ w. w % 256) in
    c.pass.ensures
    ∙ elim c.if-strict.branch [
      | then-strict+then-count-text+in_default t ↦ same-passes w text at n long s.args.strict t.if-count-text.true (sym t.compare_held.ensures ∙ t.in_default.is)
      | else-strict j ↦ elim j.else-strict.branch [
        | else-strict-via-then-strict+else-count-text t ↦ short-passes w text at n long s.args.strict t.if-count-text.false
        | else-strict-via-else-strict e ↦ unseen-passes w text at n long e.if-strict.false
      ]
    ]
