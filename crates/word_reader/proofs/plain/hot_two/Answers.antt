-- The digits are there, and the byte behind them.
use mathlib.Core.Path.{refl}
use Prim.Native.Nat.{◌+◌, ◌≤◌}
use native.Mathlib.Omega.{arith}
use lib.ListN.{length}
use Rattle.rules.specs.ShortRules.{short_rule}
use Rattle.words.specs.Fields.{slot}
use Rattle.words.specs.Pieces.{short_in}
use Rattle.word_reader.proofs.plain.Numbers.{two-got}
use Rattle.word_reader.proofs.plain.Words.{two_steps, hot-number}
use Rattle.word_reader.proofs.plain.hot_two.Goals as goal

pub returns : goal.returns
returns c =
    let a = c.args in
    let text = a.text.now in
    let at = a.from.next in
    let n = c.in_ok-n.n in
    let short = short_in (slot a.w) in
    let two = c.in_ok-n.ensures in
    let there : at + 2 ≤ length text = omega (arith, c.if-text-end.false) in
    let kept = rw (c.of_count.ensures, c.short_unit-unit.ensures, c.short_in.ensures, c.slot.ensures.0) at c.keep.ensures in
    hot-number a.choices a.w text a.from (at + 2) c.keep.result (short_rule short 2)
    (λ row. two_steps a.w row c.requires.0) c.requires.1.1 refl (λ book current. two-got a.choices book current short text at n there two) (rw kept.0 c.in_ok-next.ensures) kept.1 kept.2
