-- The year is there, then the rest.
use mathlib.Core.Path.{refl}
use Prim.Native.Nat.{◌+◌, ◌≤◌}
use native.Mathlib.Omega.{arith}
use lib.ListN.{length}
use Rattle.rules.specs.Steps.{long_year}
use Rattle.meaning.specs.declared.ParseUnit.TheVariants as unit
use Rattle.rules.specs.ShortRules.{short_rule}
use Rattle.rules.specs.declared.short.Short.TheVariants as short
use Rattle.word_reader.proofs.plain.Numbers.{two-got, four-got}
use Rattle.word_reader.proofs.plain.Words.{date-steps, hot-three}
use Rattle.word_reader.proofs.plain.hot_date.Goals as goal

pub returns : goal.returns
returns c =
    let a = c.args in
    let text = a.text.now in
    let at = a.from.next in
    let there : at + 10 ≤ length text = omega (arith, c.if-text-from.false) in
    let year = c.in_ok-year in
    hot-three a.choices a.w text (long_year 4) (short_rule short.Month 2) (short_rule short.Day 2) (λ row. date-steps a.w row c.requires.0)
    a.from (at + 4) c.hot_rest.result {n = 4} {second = unit.Month} {third = unit.DayOfMonth} refl (omega (arith, there))
    (λ book current. four-got a.choices book current 4 (omega arith) text at year.year (omega (arith, there)) year.ensures)
    (λ i n h two book current. two-got a.choices book current short.Month text i n h two)
    (λ i n h two book current. two-got a.choices book current short.Day text i n h two)
    c.hot_rest.ensures
