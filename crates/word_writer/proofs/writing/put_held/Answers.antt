use lib.ListN.{length}
use mathlib.Core.Path.{◌≡◌, sym, ◌∙◌}
use native.Mathlib.Omega.{arith}
use Rattle.laws.proofs.Laid.{lay-next, lay_done}
use Rattle.word_writer.proofs.Held.{held-count, held_at}
use Rattle.words.specs.Pieces.{held_bytes}
use Rattle.word_writer.proofs.writing.put_held.Goals as goal

pub loop-j-preserved : goal.loop-j-preserved
loop-j-preserved c =
    let L = c.loop-j in
    let a = c.args in
    let held = held_bytes a.tail.now a.from a.n in
    let size = held-count a.tail.now a.from a.n in
    rw (← held_at a.tail.now a.from a.n L.j c.loop-j-test.true)
    (lay-next L.out a.at held L.j 0 (omega (arith, size, c.loop-j-test.true, c.requires.n_in_bounds)) ∙ L.invariant)

pub returns : goal.returns
returns c =
    let L = c.loop-j in
    let a = c.args in
    let held = held_bytes a.tail.now a.from a.n in
    let size : length held ≡ a.n = omega (arith, held-count a.tail.now a.from a.n, c.requires.n_in_bounds) in
    record {
      end = omega (arith, size);
      held = sym (lay_done L.out a.at held L.j (omega (arith, size, c.loop-j-test.false)) (omega (arith, size, L.auto.j-end))) ∙ L.invariant;
    }
