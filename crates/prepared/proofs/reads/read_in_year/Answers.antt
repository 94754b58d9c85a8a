-- 14, and else by the words.
use mathlib.Core.Path.{sym, ◌∙◌}
use mir.Syntax.{w32}
use mir.ValLaws.{to_z-of_z}
use Rattle.rows.proofs.Fits.{year-fits}
use Rattle.meaning.specs.Prepared.{read_steps}
use borrow.Author.Rules.{rules}
use Rattle.prepared.proofs.reads.read_in_year.Goals as goal

pub read_words-requires : goal.read_words-requires
read_words-requires c =
    let s = c in
    (search rules, search rules, sym c.current_year_check.ensures ∙ c.in-Ok.is)

pub give_refusal-requires : goal.give_refusal-requires
give_refusal-requires c =
    let s = c in
    let told = rw (to_z-of_z w32 s.args.year s.ranges.year, c.in-Err.is) at c.current_year_check.ensures in
    (search rules, search rules, rw (sym told) at (year-fits s.args.choices.edition s.args.year s.ranges.year))

pub returns-in-Ok : goal.returns-in-Ok
returns-in-Ok c = rw (← to_z-of_z w32 c.args.year c.ranges.year) c.read_words.ensures

pub returns-in-Err : goal.returns-in-Err
unfolding read_steps
returns-in-Err c =
    let s = c in
    let told = rw (to_z-of_z w32 s.args.year s.ranges.year, c.in-Err.is) at c.current_year_check.ensures in
    rw (← told) c.give_refusal.ensures
