-- One digit is there, or two, and the byte behind.
use mathlib.Core.Path.{refl, sym, ◌∙◌}
use Prim.Native.Nat.{◌+◌}
use native.Mathlib.Omega.{arith}
use Rattle.rules.specs.ShortRules.{short_rule}
use Rattle.words.specs.Fields.{slot}
use Rattle.words.specs.Pieces.{short_in}
use Rattle.word_reader.proofs.plain.Numbers.{few-got, few-inside}
use Rattle.word_reader.proofs.plain.Words.{few-steps, hot-number}
use Rattle.word_reader.proofs.plain.hot_few.Goals as goal

pub overflow_add-end : goal.overflow_add-end
overflow_add-end c =
    let a = c.args in
    let told = rw (c.most_read-most.ensures, c.short_most.ensures, c.short_quantity.ensures, c.short_in-short.ensures, c.slot.ensures.0) at (sym c.few_at.ensures ∙ c.in_ok-read.was) in
    omega (arith, few-inside a.choices (short_in (slot a.w)) a.text.now a.from.next told c.requires.1.1)

pub pass_behind-requires : goal.pass_behind-requires
pass_behind-requires c =
    let a = c.args in
    let told = rw (c.most_read-most.ensures, c.short_most.ensures, c.short_quantity.ensures, c.short_in-short.ensures, c.slot.ensures.0) at (sym c.few_at.ensures ∙ c.in_ok-read.was) in
    few-inside a.choices (short_in (slot a.w)) a.text.now a.from.next told c.requires.1.1

pub keep-requires : goal.keep-requires
keep-requires c =
    let a = c.args in
    let told = rw (c.most_read-most.ensures, c.short_most.ensures, c.short_quantity.ensures, c.short_in-short.ensures, c.slot.ensures.0) at (sym c.few_at.ensures ∙ c.in_ok-read.was) in
    let inside = few-inside a.choices (short_in (slot a.w)) a.text.now a.from.next told c.requires.1.1 in
    (c.requires.1.0, omega (arith, c.requires.1.1, c.requires.1.2), omega (arith, inside, c.requires.1.2))

pub returns : goal.returns
returns c =
    let a = c.args in
    let told = rw (c.most_read-most.ensures, c.short_most.ensures, c.short_quantity.ensures, c.short_in-short.ensures, c.slot.ensures.0) at (sym c.few_at.ensures ∙ c.in_ok-read.was) in
    let text = a.text.now in
    let at = a.from.next in
    let d = c.in_ok-read.read in
    let short = short_in (slot a.w) in
    let kept = rw (c.of_count.ensures, c.short_unit-unit.ensures, c.short_in-short.ensures, c.slot.ensures.0) at c.keep.ensures in
    hot-number a.choices a.w text a.from (at + d.taken) c.keep.result (short_rule short 1)
    (λ row. few-steps a.w row c.requires.0) c.requires.1.1 refl (λ book current. few-got a.choices book current short text at told) (rw kept.0 c.in_ok-next.ensures) kept.1 kept.2
