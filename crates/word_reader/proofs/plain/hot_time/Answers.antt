-- The hour is there, then the rest.
use mathlib.Core.Path.{refl}
use Prim.Native.Nat.{◌+◌, ◌≤◌}
use native.Mathlib.Omega.{arith}
use lib.ListN.{length}
use Rattle.meaning.specs.declared.ParseUnit.TheVariants as unit
use Rattle.rules.specs.ShortRules.{short_rule}
use Rattle.rules.specs.declared.short.Short.TheVariants as short
use Rattle.word_reader.proofs.plain.Numbers.{two-got}
use Rattle.word_reader.proofs.plain.Words.{time-steps, hot-three}
use Rattle.word_reader.proofs.plain.hot_time.Goals as goal

pub returns : goal.returns
returns c =
    let a = c.args in
    let text = a.text.now in
    let at = a.from.next in
    let there : at + 8 ≤ length text = omega (arith, c.if-text-from.false) in
    let hour = c.in_ok-hour in
    hot-three a.choices a.w text (short_rule short.Hour 2) (short_rule short.Minute 2) (short_rule short.Second 2) (λ row. time-steps a.w row c.requires.0)
    a.from (at + 2) c.hot_rest.result {n = 2} {second = unit.Minute} {third = unit.Second} refl (omega (arith, there))
    (λ book current. two-got a.choices book current short.Hour text at hour.hour (omega (arith, there)) hour.ensures)
    (λ i n h two book current. two-got a.choices book current short.Minute text i n h two)
    (λ i n h two book current. two-got a.choices book current short.Second text i n h two)
    c.hot_rest.ensures
