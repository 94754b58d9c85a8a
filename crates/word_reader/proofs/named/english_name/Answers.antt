-- What is found is a name of the word's list, and a month carries its number.
use mathlib.Core.Path.{refl, sym, ◌∙◌}
use mir.Facts.{to_z_pos}
use mir.Syntax.{w64}
use Prim.Native.Nat.{◌+◌}
use native.Mathlib.Omega.{arith}
use lib.ListN.{drop}
use Rattle.word_reader.proofs.keeping.Moving.{kept-nothing}
use Rattle.word_reader.proofs.named.Names.{begun-told, weekday-carries, month-carries, named-read}
use Rattle.word_reader.proofs.named.english_name.Goals as goal

pub returns-then-weekday : goal.returns-then-weekday
returns-then-weekday c =
    let a = c.args in
    let found = c.in_ok-found.found in
    let begun = begun-told a.w a.text.now a.from.next found c.is_weekday-weekday.ensures c.most_letters.ensures c.in_ok-found.ensures.1 in
    let carries = weekday-carries (drop a.from.next a.text.now) found a.w c.requires.1 begun (sym c.is_weekday-weekday.ensures ∙ c.if-weekday.true) in
    named-read a.choices a.w a.text.now a.from (record { next = c.in_ok-next.next; mask = a.from.mask }) found c.requires.0 c.requires.1 c.requires.2.1 begun carries c.in_ok-next.ensures kept-nothing refl

pub returns : goal.returns
returns c =
    let a = c.args in
    let found = c.in_ok-found.found in
    let begun = begun-told a.w a.text.now a.from.next found c.is_weekday-weekday.ensures c.most_letters.ensures c.in_ok-found.ensures.1 in
    let carries = month-carries (drop a.from.next a.text.now) found a.w c.requires.1 begun (sym c.is_weekday-weekday.ensures ∙ c.if-weekday.false) in
    let kept = rw (to_z_pos w64 {n = found.name + 1} (omega (arith, begun.below))) at c.keep.ensures in
    named-read a.choices a.w a.text.now a.from c.keep.result found c.requires.0 c.requires.1 c.requires.2.1 begun carries (rw kept.0 c.in_ok-next.ensures) kept.1 kept.2
