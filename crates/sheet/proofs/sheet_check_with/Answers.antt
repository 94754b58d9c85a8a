-- The check in the edition of a number, where it stands for choices of a check.
use Prim.Native.Nat.{◌%◌}
use borrow.Author.Tests.{eq-eqb, le-leb, lt-leb}
use lib.Dec.{leb}
use mathlib.Core.Bool.{true, false}
use mathlib.Core.Path.{◌≡◌}
use mir.Syntax.{w32}
use mir.ValLaws.{to_z-of_z}
use native.Mathlib.Omega.{arith}
use Rattle.laws.proofs.Tests.{both-no}
use Rattle.trust.proofs.Verdicts.{verdict-says}
use Rattle.trust.specs.Check.{verdict_of}
use Rattle.sheet.proofs.Rooms.{chosen, no-choices}
use Rattle.sheet.specs.Numbers.{edition_of, of_check}
use Rattle.sheet.specs.Sheet.{verdict_in}
use Rattle.sheet.proofs.sheet_check_with.Goals.{then-choices-gt7-via-then-choices-gt7, then-choices-gt7-via-else-choices-gt7+then-choices-eq1}
use Rattle.sheet.proofs.sheet_check_with.Goals as goal

pub returns-then-choices-gt7 : goal.returns-then-choices-gt7
returns-then-choices-gt7 c =
    let a = c.args in
    let n = a.choices in
    let p = a.pattern.now in
    let row = a.answer.now in
    let none : of_check n ≡ false
    = elim c.then-choices-gt7.branch [
      | then-choices-gt7-via-then-choices-gt7 w ↦ rw (lt-leb n 7 (omega (arith, w.if-choices-gt7.true)))
      | then-choices-gt7-via-else-choices-gt7+then-choices-eq1 w ↦
          let odd : n % 2 ≡ 1 = omega (arith, w.if-choices-eq1.true) in
          rw odd (both-no (leb n 7))
    ] in
    record {
      verdict = verdict_of (edition_of n) p a.year;
      says = verdict-says (edition_of n) p a.year;
      given = no-choices (of_check n) row (verdict_in row (verdict_of (edition_of n) p a.year)) none;
    }

pub returns : goal.returns
returns c =
    let s = c in
    let a = s.args in
    let n = a.choices in
    let row = a.answer.now in
    let few = le-leb n 7 (omega (arith, c.if-choices-gt7.false)) in
    let even = eq-eqb (n % 2) 0 (omega (arith, c.if-choices-eq1.false)) in
    let some : of_check n ≡ true = rw (few, even) in
    let checked = rw (to_z-of_z w32 a.year s.ranges.year, c.edition_of.ensures) at c.check.ensures in
    record {
      verdict = checked.verdict;
      says = checked.says;
      given = chosen (of_check n) row (verdict_in row checked.verdict) some checked.given;
    }
