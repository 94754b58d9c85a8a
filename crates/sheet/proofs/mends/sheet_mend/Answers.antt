-- The mending in the edition of a number, where it stands for choices of a check and there is room in both rows.
use Prim.Native.Nat.{◌%◌}
use borrow.Author.Tests.{eq-eqb, le-leb, lt-leb}
use lib.Dec.{leb}
use mathlib.Core.Bool.{false}
use mathlib.Core.Logic.{⊎_elim, inl, inr}
use mathlib.Core.Path.{◌≡◌}
use mir.Syntax.{w32}
use mir.ValLaws.{to_z-of_z}
use native.Mathlib.Omega.{arith}
use Rattle.laws.proofs.Tests.{both-no}
use Rattle.sheet.proofs.MendFits.{mend-fits}
use Rattle.sheet.proofs.mends.Answers.{no-choices, no_room, given}
use Rattle.sheet.specs.Numbers.{edition_of, of_check}
use borrow.Author.Rules.{rules}
use Rattle.sheet.proofs.mends.sheet_mend.Goals.{then-choices-gt7-via-then-choices-gt7, then-choices-gt7-via-else-choices-gt7+then-choices-eq1}
use Rattle.sheet.proofs.mends.sheet_mend.Goals as goal

pub returns-then-choices-gt7 : goal.returns-then-choices-gt7
returns-then-choices-gt7 c =
    let a = c.args in
    let n = a.choices in
    let none : of_check n ≡ false
    = elim c.then-choices-gt7.branch [
      | then-choices-gt7-via-then-choices-gt7 w ↦ rw (lt-leb n 7 (omega (arith, w.if-choices-gt7.true)))
      | then-choices-gt7-via-else-choices-gt7+then-choices-eq1 w ↦
          let odd : n % 2 ≡ 1 = omega (arith, w.if-choices-eq1.true) in
          rw odd (both-no (leb n 7))
    ] in
    no-choices n a.pattern.now a.year a.out.now a.changes.now a.answer.now none

pub returns-then-changes-lt512 : goal.returns-then-changes-lt512
returns-then-changes-lt512 c =
    let a = c.args in
    let few = le-leb a.choices 7 (omega (arith, c.if-choices-gt7.false)) in
    let even = eq-eqb (a.choices % 2) 0 (omega (arith, c.if-choices-eq1.false)) in
    no_room a.choices a.pattern.now a.year a.out.now a.changes.now a.answer.now (rw (few, even))
    (⊎_elim (λ h. inl h) (λ h. inr h.1) c.then-changes-lt512.either)

pub give_mended-requires : goal.give_mended-requires
give_mended-requires c =
    let m = c in
    let s = m in
    let a = s.args in
    let mended = rw (to_z-of_z w32 a.year s.ranges.year, m.edition_of.ensures) at m.mend.ensures in
    (search rules, search rules, rw mended.0.whole (mend-fits (edition_of a.choices) a.pattern.now a.year a.out.now (omega arith) s.ranges.year))

pub returns : goal.returns
returns c =
    let m = c in
    let e = m in
    let s = e in
    let a = s.args in
    let few = le-leb a.choices 7 (omega (arith, e.if-choices-gt7.false)) in
    let even = eq-eqb (a.choices % 2) 0 (omega (arith, e.if-choices-eq1.false)) in
    let mended = rw (to_z-of_z w32 a.year s.ranges.year, m.edition_of.ensures) at m.mend.ensures in
    given a.choices a.pattern.now a.year a.out.now a.changes.now a.answer.now (rw (few, even)) (omega (arith, e.if-changes-lt512.false)) (omega (arith, e.if-answer-lt2.false)) mended.0.whole mended.1 c.give_mended.ensures
