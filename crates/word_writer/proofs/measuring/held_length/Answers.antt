-- As many as are there, less the last where that is lost.
use mathlib.Core.Path.{◌≡◌, sym, ◌∙◌}
use native.Mathlib.Omega.{arith}
use Prim.Native.Nat.{◌-◌, min}
use lib.ListN.{length}
use Rattle.word_writer.proofs.Held.{held-lost, held_kept}
use Rattle.words.specs.Fields.{count, from}
use Rattle.word_writer.proofs.measuring.held_length.Goals as goal
use Rattle.word_writer.proofs.measuring.held_length.Goals.{else-is_lost-via-then-is_lost+else-n-gt0, else-is_lost-via-else-is_lost}

pub returns-then-n-gt0 : goal.returns-then-n-gt0
returns-then-n-gt0 c =
    let a = c.args in
    let there : c.at_most-n.result ≡ min (count a.w) (length a.tail.now - from a.w) = rw (← c.count.ensures.0, ← c.from.ensures.0) c.at_most-n.ensures in
    (held-lost a.tail.now a.w c.at_most-n.result there (sym c.is_lost.ensures ∙ c.if-is_lost.true), omega (arith, there))

pub returns-else-is_lost : goal.returns-else-is_lost
returns-else-is_lost c =
    let a = c.args in
    let there : c.at_most-n.result ≡ min (count a.w) (length a.tail.now - from a.w) = rw (← c.count.ensures.0, ← c.from.ensures.0) c.at_most-n.ensures in
    elim c.else-is_lost.branch [
      | else-is_lost-via-then-is_lost+else-n-gt0 w ↦
          let none : c.at_most-n.result - 1 ≡ c.at_most-n.result = omega (arith, w.if-n-gt0.false) in
          (rw none at (held-lost a.tail.now a.w c.at_most-n.result there (sym c.is_lost.ensures ∙ w.if-is_lost.true)), omega (arith, there))
      | else-is_lost-via-else-is_lost w ↦ (held_kept a.tail.now a.w c.at_most-n.result there (sym c.is_lost.ensures ∙ w.if-is_lost.false), omega (arith, there))
    ]
