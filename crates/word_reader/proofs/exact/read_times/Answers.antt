-- Compared where it is asked for and the bytes are there, then passed over.
use lib.ListN.{length, replicate, length-replicate}
use mathlib.Core.Path.{◌≡◌, sym, ◌∙◌}
use Prim.Native.Nat.{◌+◌, ◌-◌}
use native.Mathlib.Omega.{arith}
use Rattle.word_reader.proofs.exact.Literals.{unseen-passes, short-passes, same-passes, differs-stops, no_bytes}
use Rattle.word_reader.proofs.exact.read_times.Goals as goal
use Rattle.word_reader.proofs.exact.read_times.Goals.{then-strict+then-count-gt0+then-count-text+in_default, then-strict+then-count-gt0+else-count-text, else-strict, else-strict-via-then-strict+else-count-gt0, else-strict-via-else-strict}

pub returns-in-Some : goal.returns-in-Some
returns-in-Some c = let s = c in
    let a = s.args in
    let at = a.cursor.at in
    let w = replicate a.count a.byte in
    let long = length-replicate a.count a.byte in
    let start : at + a.count - length w ≡ at = omega (arith, long) in
    let seen = rw start at c.compare.ensures in
    rw c.differs.ensures
    (differs-stops w a.text.now at a.count long c.if-strict.true c.if-count-text.true (sym seen ∙ c.in-Some.is))

pub returns : goal.returns
returns c =
    let s = c in
    let a = s.args in
    let at = a.cursor.at in
    let text = a.text.now in
    let w = replicate a.count a.byte in
    let long = length-replicate a.count a.byte in
    let start : at + a.count - length w ≡ at = omega (arith, long) in
    c.pass.ensures
    ∙ elim c.if-strict.branch [
      | then-strict+then-count-gt0+then-count-text+in_default t ↦ same-passes w text at a.count long a.strict t.if-count-text.true (sym (rw start at t.compare.ensures) ∙ t.in_default.is)
      | then-strict+then-count-gt0+else-count-text t ↦ short-passes w text at a.count long a.strict t.if-count-text.false
      | else-strict j ↦ elim j.else-strict.branch [
        | else-strict-via-then-strict+else-count-gt0 t ↦ no_bytes w text at a.count long a.strict t.if-count-gt0.false
        | else-strict-via-else-strict e ↦ unseen-passes w text at a.count long e.if-strict.false
      ]
    ]
