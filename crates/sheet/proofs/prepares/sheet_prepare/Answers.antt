-- The pattern prepared for the pair of a number, where it stands for choices and there is room.
use mathlib.Core.Bool.{false}
use mathlib.Core.Logic.{⊎_elim}
use mathlib.Core.Path.{◌≡◌, refl}
use native.Mathlib.Omega.{arith}
use borrow.Author.Tests.{le-leb, lt-leb}
use lib.Dec.{leb}
use lib.ListN.{length}
use Rattle.laws.proofs.Tests.{both-no}
use Rattle.meaning.specs.Bytes.{both}
use Rattle.sheet.proofs.prepares.sheet_prepare.Goals as goal

pub returns-then-choices-gt7 : goal.returns-then-choices-gt7
returns-then-choices-gt7 c = rw (lt-leb c.args.choices 7 (omega arith)) (record { number = refl; row = refl }, refl)

pub returns-then-row-lt259 : goal.returns-then-row-lt259
returns-then-row-lt259 c =
    let a = c.args in
    let row = a.row.now in
    let answer = a.answer.now in
    let none : both (leb 259 (length row)) (leb 2 (length answer)) ≡ false
    = ⊎_elim (λ h. rw (lt-leb 259 (length row) (omega (arith, h))))
    (λ h. rw (lt-leb 2 (length answer) (omega (arith, h))) (both-no (leb 259 (length row)))) c.then-row-lt259.either in
    rw (le-leb a.choices 7 (omega (arith, c.if-choices-gt7.false)), none) (record { number = refl; row = refl }, refl)

pub returns : goal.returns
returns c =
    let a = c.args in
    let few = le-leb a.choices 7 (omega (arith, c.if-choices-gt7.false)) in
    let long = le-leb 259 (length a.row.now) (omega (arith, c.if-row-lt259.false)) in
    let room = le-leb 2 (length a.answer.now) (omega (arith, c.if-answer-lt2.false)) in
    rw (few, long, room) (rw c.pair_of.ensures at c.prepare_row.ensures)
