-- The digits are there with none behind them, and the byte behind.
use mathlib.Core.Path.{refl}
use Prim.Native.Nat.{◌+◌, ◌≤◌}
use native.Mathlib.Omega.{arith}
use lib.ListN.{length}
use Rattle.rules.specs.Steps.{long_year}
use Rattle.words.specs.Fields.{slot}
use Rattle.word_reader.proofs.plain.Numbers.{four-got}
use Rattle.word_reader.proofs.plain.Words.{year-steps, hot-number}
use Rattle.word_reader.proofs.plain.hot_year.Goals as goal

pub returns : goal.returns
returns c =
    let a = c.args in
    let text = a.text.now in
    let at = a.from.next in
    let n = c.in_ok-n.n in
    let four = c.in_ok-n.ensures in
    let there : at + 4 ≤ length text = omega (arith, c.if-text-end.false) in
    let few : slot a.w ≤ 4 = omega (arith, c.if-slot-gt4.false, c.slot.ensures.0) in
    let kept = rw c.of_count.ensures at c.keep.ensures in
    hot-number a.choices a.w text a.from (at + 4) c.keep.result (long_year (slot a.w))
    (λ row. year-steps a.w row c.requires.0) c.requires.1.1 refl (λ book current. four-got a.choices book current (slot a.w) few text at n there four) (rw kept.0 c.in_ok-next.ensures) kept.1 kept.2
