-- Both numbers are there, and the bytes; one after the other is kept, and the bytes between give nothing.
use mathlib.Core.Path.{sym, ◌∙◌}
use mir.Facts.{to_z_pos}
use mir.Syntax.{w64}
use Prim.Native.Nat.{◌+◌}
use native.Mathlib.Omega.{arith}
use Rattle.std.proofs.lemmas.Option.{none-some}
use Rattle.word_reader.proofs.keeping.Moving.{kept-nothing, kept_then}
use Rattle.word_reader.proofs.plain.Numbers.{two-small}
use Rattle.word_reader.proofs.plain.hot_rest.Goals as goal

pub returns : goal.returns
returns g c =
    let a = c.args in
    let text = a.text.now in
    let end = a.from.next + g.row.WIDTH in
    let second = c.in_ok-second in
    let third = c.in_ok-third in
    let one = rw c.of_count.ensures at c.keep-one.ensures in
    let two = rw (c.of_count-2.ensures, one.0) at c.keep-two.ensures in
    let all = rw (c.of_count-3.ensures, two.0) at c.keep.ensures in
    let kept = kept_then (kept_then (kept_then (kept_then one.1 kept-nothing) two.1) kept-nothing) all.1 in
    record {
      lost = λ k. absurd (none-some _ (sym k));
      beyond = all.2 ∙ two.2 ∙ one.2;
      ends = (second.second, third.third, second.ensures, third.ensures, c.in_ok-between.ensures, rw all.0 c.in_ok-next.ensures, kept);
    }
