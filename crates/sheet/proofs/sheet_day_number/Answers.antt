-- The number of the day, where there is room for it.
use native.Mathlib.Omega.{arith}
use mir.Syntax.{w32}
use mir.ValLaws.{to_z-of_z}
use Rattle.meaning.specs.Answers.{day_number_answer}
use Rattle.meaning.specs.Days.{day_number}
use Rattle.sheet.proofs.Fits.{day-number-fits}
use Rattle.sheet.proofs.Rooms.{room, no_room}
use borrow.Author.Rules.{rules}
use Rattle.sheet.proofs.sheet_day_number.Goals as goal

pub returns-then-answer-le1 : goal.returns-then-answer-le1
returns-then-answer-le1 c =
    let a = c.args in
    no_room 2 a.answer.now (day_number_answer (day_number a.year a.month a.day)) (omega arith)

pub give_integer-requires : goal.give_integer-requires
give_integer-requires c =
    let s = c in
    (search rules, rw c.day_number.ensures.whole (day-number-fits _ s.args.month s.args.day))

pub returns : goal.returns
returns c =
    let s = c in
    let a = s.args in
    let answered = rw (to_z-of_z w32 a.year s.ranges.year) at c.day_number.ensures.whole in
    room 2 a.answer.now (day_number_answer (day_number a.year a.month a.day)) (omega (arith, c.if-answer-le1.false))
    (rw (← answered) c.give_integer.ensures)
