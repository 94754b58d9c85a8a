-- Where a byte is there, and no other where that matters.
use mathlib.Core.Bool.{false}
use mathlib.Core.Logic.{◌⊎◌, inl, inr}
use mathlib.Core.Path.{◌≡◌, refl}
use lib.ListN.{get_or}
use borrow.Author.Rules.{rules}
use Rattle.word_reader.proofs.keeping.Passing.{byte-passes}
use Rattle.word_reader.proofs.keeping.pass_byte.Goals as goal
use Rattle.word_reader.proofs.keeping.pass_byte.Goals.{then-strict, else-strict}

pub returns : goal.returns
returns c =
    let a = c.args in
    let there = c.if-text-at.false in
    let same : (a.strict ≡ false) ⊎ (get_or a.text.now a.at 0 ≡ a.byte) =
    elim c.if-strict.branch [ then-strict w ↦ inr (search rules) | else-strict w ↦ inl w.if-strict.false ] in
    (refl, there, byte-passes a.strict a.byte a.text.now a.at there same)
