-- What the parts are, where there is room for it in both rows.
use mathlib.Core.Logic.{⊎_elim}
use native.Mathlib.Omega.{arith}
use Rattle.meaning.specs.Answers.{split_answer}
use Rattle.meaning.specs.Whole.{split}
use Rattle.sheet.proofs.Rooms.{rooms, no-room-in-first, no-room-in-second}
use Rattle.rows.specs.Rows.{unit_entries}
use Rattle.sheet.proofs.sheet_units.Goals as goal

pub returns-then-answer-lt2 : goal.returns-then-answer-lt2
returns-then-answer-lt2 c =
    let a = c.args in
    let p = a.pattern.now in
    ⊎_elim (λ h. no-room-in-first 256 a.answer.now a.units.now (unit_entries p) (split_answer (split p)) (omega (arith, h)))
    (λ h. no-room-in-second 256 a.answer.now a.units.now (unit_entries p) (split_answer (split p)) (omega (arith, h)) (omega (arith, h)))
    c.then-answer-lt2.either

pub returns : goal.returns
returns c =
    let a = c.args in
    let p = a.pattern.now in
    rooms 256 a.answer.now a.units.now (unit_entries p) (split_answer (split p)) (omega (arith, c.if-answer-lt2.false))
    (omega (arith, c.if-units-lt256.false)) c.give_units.ensures
