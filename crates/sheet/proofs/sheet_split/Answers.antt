-- The answer of the split, where there is room for it in both rows.
use mathlib.Core.Logic.{⊎_elim}
use native.Mathlib.Omega.{arith}
use Rattle.meaning.specs.Answers.{split_answer}
use Rattle.meaning.specs.Whole.{split}
use Rattle.sheet.proofs.Rooms.{rooms, no-room-in-first, no-room-in-second}
use Rattle.rows.specs.Rows.{split_numbers}
use Rattle.sheet.proofs.sheet_split.Goals as goal

pub returns-then-answer-lt2 : goal.returns-then-answer-lt2
returns-then-answer-lt2 c =
    let a = c.args in
    let p = a.pattern.now in
    ⊎_elim (λ h. no-room-in-first 768 a.answer.now a.parts.now (split_numbers (split p)) (split_answer (split p)) (omega (arith, h)))
    (λ h. no-room-in-second 768 a.answer.now a.parts.now (split_numbers (split p)) (split_answer (split p)) (omega (arith, h)) (omega (arith, h)))
    c.then-answer-lt2.either

pub returns : goal.returns
returns c =
    let a = c.args in
    let p = a.pattern.now in
    rooms 768 a.answer.now a.parts.now (split_numbers (split p)) (split_answer (split p)) (omega (arith, c.if-answer-lt2.false))
    (omega (arith, c.if-parts-lt768.false)) c.give_split.ensures
