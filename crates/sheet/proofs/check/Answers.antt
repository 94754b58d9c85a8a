-- The answer of the check, where there is room for it.
use native.Mathlib.Omega.{arith}
use mir.Syntax.{w32}
use mir.ValLaws.{to_z-of_z}
use Rattle.meaning.specs.Answers.{verdict_answer}
use Rattle.trust.proofs.Verdicts.{verdict-says}
use Rattle.trust.specs.Check.{verdict_of}
use Rattle.sheet.proofs.Fits.{verdict-fits}
use Rattle.sheet.proofs.Rooms.{room, no_room}
use borrow.Author.Rules.{rules}
use Rattle.sheet.proofs.check.Goals as goal

pub returns-then-row-lt10 : goal.returns-then-row-lt10
returns-then-row-lt10 c =
    let a = c.args in
    let p = a.pattern.now in
    record {
      verdict = verdict_of a.edition p a.year;
      says = verdict-says a.edition p a.year;
      given = no_room 10 a.row.now (verdict_answer (verdict_of a.edition p a.year)) (omega arith);
    }

pub give_verdict-requires : goal.give_verdict-requires
give_verdict-requires c =
    let s = c in
    let v = c.verdict_on in
    let says = rw (to_z-of_z w32 s.args.year s.ranges.year) at v.ensures in
    (search rules, verdict-fits s.args.edition s.args.pattern.now s.args.year v.result (omega arith) s.ranges.year says)

pub returns : goal.returns
returns c =
    let s = c in
    let v = c.verdict_on in
    record {
      verdict = v.result;
      says = rw (to_z-of_z w32 s.args.year s.ranges.year) at v.ensures;
      given = room 10 s.args.row.now (verdict_answer v.result) (omega (arith, c.if-row-lt10.false)) c.give_verdict.ensures;
    }
