-- The day of the number, where there is room for it.
use native.Mathlib.Omega.{arith}
use mir.Syntax.{w32}
use mir.ValLaws.{to_z-of_z}
use Rattle.meaning.specs.Answers.{day_answer}
use Rattle.sheet.proofs.Rooms.{room, no_room}
use Rattle.sheet.proofs.sheet_day.Goals as goal

pub returns-then-answer-lt6 : goal.returns-then-answer-lt6
returns-then-answer-lt6 c =
    let s = c in
    let day = c.day_of-day in
    record {
      day = day.result;
      is = rw (to_z-of_z w32 s.args.number s.ranges.number) at day.ensures;
      given = no_room 6 s.args.answer.now (day_answer day.result) (omega arith);
    }

pub returns : goal.returns
returns c =
    let s = c in
    let day = c.day_of-day in
    record {
      day = day.result;
      is = rw (to_z-of_z w32 s.args.number s.ranges.number) at day.ensures;
      given = room 6 s.args.answer.now (day_answer day.result) (omega (arith, c.if-answer-lt6.false)) c.give_day.ensures;
    }
