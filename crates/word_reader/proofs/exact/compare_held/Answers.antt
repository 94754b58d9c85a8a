use lib.ListN.{length, drop_of_length-le}
use mathlib.Core.Path.{◌≡◌, sym, ◌∙◌}
use Prim.Native.Nat.{◌+◌, ◌<◌, ◌≤◌}
use native.Mathlib.Omega.{arith}
use Rattle.parse.proofs.literals.Comparing.{same-on, differs_at, all_same}
use Rattle.word_reader.proofs.exact.Literals.{held-turn}
use Rattle.word_reader.proofs.exact.compare_held.Goals as goal

pub returns-then-text-at : goal.returns-then-text-at
returns-then-text-at c = let a = c.args in
    let L = c.loop-i in
    let here : L.i < length a.held.now = omega arith in
    let first = held-turn a.held.now L.i here in
    sym (differs_at a.text.now (a.at + L.i) first (omega arith) c.if-text-at.true) ∙ L.invariant.0

pub loop-i-preserved : goal.loop-i-preserved
loop-i-preserved c = let a = c.args in
    let L = c.loop-i in
    let here : L.i < length a.held.now = omega arith in
    let first = held-turn a.held.now L.i here in
    let on : a.at + (L.i + 1) ≡ a.at + L.i + 1 = omega arith in
    (rw on (same-on a.text.now (a.at + L.i) first (omega arith) c.if-text-at.false ∙ L.invariant.0), omega arith)

pub returns : goal.returns
returns c = let a = c.args in
    let L = c.loop-i in
    let all : length a.held.now ≤ L.i = omega arith in
    sym (all_same a.text.now (a.at + L.i) (rw (drop_of_length-le a.held.now all))) ∙ L.invariant.0
