-- The check in the edition of a number, where it stands for choices of a check and there is room.
use mathlib.Core.Bool.{false}
use mathlib.Core.Path.{◌≡◌, refl}
use Prim.Native.Nat.{◌%◌}
use native.Mathlib.Omega.{arith}
use borrow.Author.Tests.{le-leb, lt-leb, eq-eqb}
use lib.Dec.{leb}
use lib.ListN.{length}
use mir.Syntax.{w32}
use mir.ValLaws.{to_z-of_z}
use Rattle.laws.proofs.Tests.{both-no}
use Rattle.sheet.specs.Numbers.{of_check}
use Rattle.sheet.proofs.prepares.sheet_prepared_check.Goals.{then-choices-gt7-via-then-choices-gt7, then-choices-gt7-via-else-choices-gt7+then-choices-eq1}
use Rattle.sheet.proofs.prepares.sheet_prepared_check.Goals as goal

pub returns-then-choices-gt7 : goal.returns-then-choices-gt7
returns-then-choices-gt7 c =
    let n = c.args.choices in
    let none : of_check n ≡ false
    = elim c.then-choices-gt7.branch [
      | then-choices-gt7-via-then-choices-gt7 w ↦ rw (lt-leb n 7 (omega (arith, w.if-choices-gt7.true)))
      | then-choices-gt7-via-else-choices-gt7+then-choices-eq1 w ↦
          let odd : n % 2 ≡ 1 = omega (arith, w.if-choices-eq1.true) in
          rw odd (both-no (leb n 7))
    ] in
    rw none (record { number = refl; row = refl })

pub returns-then-answer-lt10 : goal.returns-then-answer-lt10
returns-then-answer-lt10 c =
    let a = c.args in
    let few = le-leb a.choices 7 (omega (arith, c.if-choices-gt7.false)) in
    let even = eq-eqb (a.choices % 2) 0 (omega (arith, c.if-choices-eq1.false)) in
    rw (few, even, lt-leb 10 (length a.answer.now) (omega (arith, c.if-answer-lt10.true))) (record { number = refl; row = refl })

pub returns : goal.returns
returns c =
    let s = c in
    let a = s.args in
    let few = le-leb a.choices 7 (omega (arith, c.if-choices-gt7.false)) in
    let even = eq-eqb (a.choices % 2) 0 (omega (arith, c.if-choices-eq1.false)) in
    let checks = rw (to_z-of_z w32 a.year s.ranges.year, c.edition_of.ensures) at c.check.ensures in
    rw (few, even, le-leb 10 (length a.answer.now) (omega (arith, c.if-answer-lt10.false))) checks
