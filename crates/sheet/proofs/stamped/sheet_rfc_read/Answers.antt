-- The answer of the reader, where there is room for it.
use native.Mathlib.Omega.{arith}
use Rattle.meaning.specs.Answers.{stamp_answer}
use Rattle.meaning.specs.Stamps.{read_stamp}
use Rattle.sheet.proofs.Rooms.{room, no_room}
use Rattle.sheet.proofs.StampFits.{read-stamp-fits}
use borrow.Author.Rules.{rules}
use Rattle.sheet.proofs.stamped.sheet_rfc_read.Goals as goal

pub returns-then-answer-lt6 : goal.returns-then-answer-lt6
returns-then-answer-lt6 c =
    let a = c.args in
    no_room 6 a.answer.now (stamp_answer (read_stamp a.text.now)) (omega arith)

pub give_stamped-requires : goal.give_stamped-requires
give_stamped-requires c =
    let s = c in
    let read = c.read_stamp.ensures in
    (search rules, rw read.whole (read-stamp-fits s.args.text.now (omega arith)))

pub returns : goal.returns
returns c =
    let s = c in
    let a = s.args in
    let read = c.read_stamp.ensures in
    room 6 a.answer.now (stamp_answer (read_stamp a.text.now)) (omega (arith, c.if-answer-lt6.false))
    (rw (← read.whole) c.give_stamped.ensures)
