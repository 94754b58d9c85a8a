-- The answer of parse_offset, where there is room for it.
use native.Mathlib.Omega.{arith}
use Rattle.meaning.specs.Answers.{offset_answer}
use Rattle.meaning.specs.Whole.{parse_offset}
use Rattle.sheet.proofs.Fits.{offset-fits}
use Rattle.sheet.proofs.Rooms.{room, no_room}
use borrow.Author.Rules.{rules}
use Rattle.sheet.proofs.sheet_parse_offset.Goals as goal

pub returns-then-answer-lt2 : goal.returns-then-answer-lt2
returns-then-answer-lt2 c =
    let a = c.args in
    no_room 2 a.answer.now (offset_answer (parse_offset a.text.now)) (omega arith)

pub give_integer-requires : goal.give_integer-requires
give_integer-requires c =
    let s = c in
    (search rules, rw c.parse_offset.ensures.whole (offset-fits s.args.text.now (omega arith)))

pub returns : goal.returns
returns c =
    let a = c.args in
    room 2 a.answer.now (offset_answer (parse_offset a.text.now)) (omega (arith, c.if-answer-lt2.false))
    (rw (← c.parse_offset.ensures.whole) c.give_integer.ensures)
