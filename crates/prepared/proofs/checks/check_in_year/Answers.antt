-- 14, and else what the row holds for the edition.
use mathlib.Core.Path.{sym}
use mir.Syntax.{w32}
use mir.ValLaws.{to_z-of_z}
use Rattle.prepared.proofs.checks.VerdictFits.{verdict-fits}
use Rattle.rows.proofs.Fits.{year-fits}
use borrow.Author.Rules.{rules}
use Rattle.prepared.proofs.checks.check_in_year.Goals as goal

pub give_verdict-requires : goal.give_verdict-requires
give_verdict-requires c = (search rules, rw (c.shown.ensures, c.verdict_in.ensures) (verdict-fits c.args.edition c.args.row.now))

pub give_refusal-requires : goal.give_refusal-requires
give_refusal-requires c =
    let s = c in
    let told = rw (to_z-of_z w32 s.args.year s.ranges.year, c.in-Err.is) at c.current_year_check.ensures in
    (search rules, search rules, rw (sym told) at (year-fits s.args.edition s.args.year s.ranges.year))

pub returns-in-Ok : goal.returns-in-Ok
returns-in-Ok c =
    let s = c in
    let told = rw (to_z-of_z w32 s.args.year s.ranges.year, c.in-Ok.is) at c.current_year_check.ensures in
    rw (← told, ← c.verdict_in.ensures, ← c.shown.ensures) c.give_verdict.ensures

pub returns-in-Err : goal.returns-in-Err
returns-in-Err c =
    let s = c in
    let told = rw (to_z-of_z w32 s.args.year s.ranges.year, c.in-Err.is) at c.current_year_check.ensures in
    rw (← told) c.give_refusal.ensures
