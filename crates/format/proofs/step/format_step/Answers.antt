-- Each kind of step, from what it relies on.
use borrow.Author.Rules.{rules}
use lib.ListN.{length-replicate}
use mir.Syntax.{w32}
use mir.ValLaws.{to_z-of_z}
use native.Mathlib.Omega.{arith}
use Rattle.format.proofs.step.Texts.{open-text, short-small, year-text}
use Rattle.laws.proofs.Fields.{allowed}
use Rattle.laws.proofs.OpenedBooks.{opened-there}
use Rattle.meaning.specs.Writing.{place_of, name_text, rule_text, step_text}
use Rattle.meaning.specs.declared.NameList.TheVariants.{MonthAbbreviated, MonthWide, WdayWide}
use Rattle.pattern.proofs.parts.Walks.{rest_all}
use Rattle.format.proofs.step.format_step.Goals as goal

pub put_times-requires : goal.put_times-requires
unfolding step_text
put_times-requires c = rw length-replicate at (rw c.in-Times.is at c.requires.step_in_bounds)

pub slice_bounds-put_unescaped-start : goal.slice_bounds-put_unescaped-start
slice_bounds-put_unescaped-start c = omega (arith, rw c.in-Quoted.is at c.requires.held)

pub slice_bounds-put_unescaped-end : goal.slice_bounds-put_unescaped-end
slice_bounds-put_unescaped-end c = omega (arith, rw c.in-Quoted.is at c.requires.held)

pub put_unescaped-requires : goal.put_unescaped-requires
unfolding step_text
put_unescaped-requires c = rw c.in-Quoted.is at c.requires.step_in_bounds

pub slice_bounds-put_open-start : goal.slice_bounds-put_open-start
slice_bounds-put_open-start c = omega (arith, (rw c.in-Open.is at c.requires.held).0)

pub put_open-requires-clause-lost : goal.put_open-requires-clause-lost
put_open-requires-clause-lost c =
    rw (rest_all c.in-Open.from c.args.pattern.now) (rw c.in-Open.is at c.requires.held).1

pub put_open-requires-clause-src_in_bounds : goal.put_open-requires-clause-src_in_bounds
put_open-requires-clause-src_in_bounds c =
    rw (rest_all c.in-Open.from c.args.pattern.now) (rw open-text at (rw c.in-Open.is at c.requires.step_in_bounds))

pub put_short-requires : goal.put_short-requires
unfolding step_text rule_text
put_short-requires c =
    let small = short-small c.in-Short.number c.args.f (allowed c.args.f c.requires.f_value) in
    rw c.short_number.ensures (small, (rw c.in-Short.is at c.requires.held).1, rw c.in-Short.is at c.requires.step_in_bounds)

pub zero_padded_i-requires : goal.zero_padded_i-requires
unfolding step_text
zero_padded_i-requires c =
    let e = to_z-of_z w32 c.args.f.year (search rules) in
    rw e (rw year-text at (rw c.in-Year.is at c.requires.step_in_bounds))

pub overflow_sub-f : goal.overflow_sub-f
overflow_sub-f c = omega (arith, allowed c.args.f c.requires.f_value)

pub format_name-requires-clause-index_in_bounds : goal.format_name-requires-clause-index_in_bounds
unfolding place_of
format_name-requires-clause-index_in_bounds c = opened-there c.args.book.now MonthAbbreviated c.args.f (allowed c.args.f c.requires.f_value)

pub format_name-requires-clause-index_in_bounds_2 : goal.format_name-requires-clause-index_in_bounds_2
unfolding step_text rule_text name_text place_of
format_name-requires-clause-index_in_bounds_2 c = rw c.in-MonthAbbreviated.is at c.requires.step_in_bounds

pub overflow_sub-f-in-MonthWide : goal.overflow_sub-f-in-MonthWide
overflow_sub-f-in-MonthWide c = omega (arith, allowed c.args.f c.requires.f_value)

pub format_name-requires-in-MonthWide-clause-index_in_bounds : goal.format_name-requires-in-MonthWide-clause-index_in_bounds
unfolding place_of
format_name-requires-in-MonthWide-clause-index_in_bounds c = opened-there c.args.book.now MonthWide c.args.f (allowed c.args.f c.requires.f_value)

pub format_name-requires-in-MonthWide-clause-index_in_bounds_2 : goal.format_name-requires-in-MonthWide-clause-index_in_bounds_2
unfolding step_text rule_text name_text place_of
format_name-requires-in-MonthWide-clause-index_in_bounds_2 c = rw c.in-MonthWide.is at c.requires.step_in_bounds

pub format_name-requires-in-WdayWide-clause-index_in_bounds : goal.format_name-requires-in-WdayWide-clause-index_in_bounds
unfolding place_of
format_name-requires-in-WdayWide-clause-index_in_bounds c = opened-there c.args.book.now WdayWide c.args.f (allowed c.args.f c.requires.f_value)

pub format_name-requires-in-WdayWide-clause-index_in_bounds_2 : goal.format_name-requires-in-WdayWide-clause-index_in_bounds_2
unfolding step_text rule_text name_text place_of
format_name-requires-in-WdayWide-clause-index_in_bounds_2 c = rw c.in-WdayWide.is at c.requires.step_in_bounds

pub put_run-requires-clause-count_in_bounds : goal.put_run-requires-clause-count_in_bounds
put_run-requires-clause-count_in_bounds c = rw c.in-Run.is at c.requires.step_in_bounds

pub returns-in-Times : goal.returns-in-Times
unfolding step_text
returns-in-Times c = rw c.in-Times.is c.put_times.ensures

pub returns-in-Quoted : goal.returns-in-Quoted
unfolding step_text
returns-in-Quoted c = rw c.in-Quoted.is c.put_unescaped.ensures

pub returns-in-Open : goal.returns-in-Open
returns-in-Open c =
    rw (c.in-Open.is, open-text) (rw (rest_all c.in-Open.from c.args.pattern.now) at c.put_open.ensures)

pub returns-in-Short : goal.returns-in-Short
unfolding step_text rule_text
returns-in-Short c = rw (c.in-Short.is, ← c.short_number.ensures) c.put_short.ensures

pub returns-in-Year : goal.returns-in-Year
unfolding step_text
returns-in-Year c =
    let e = to_z-of_z w32 c.args.f.year (search rules) in
    rw (c.in-Year.is, year-text) (rw e at c.zero_padded_i.ensures)

pub returns-in-MonthAbbreviated : goal.returns-in-MonthAbbreviated
unfolding step_text rule_text name_text place_of
returns-in-MonthAbbreviated c = rw c.in-MonthAbbreviated.is c.format_name.ensures

pub returns-in-MonthWide : goal.returns-in-MonthWide
unfolding step_text rule_text name_text place_of
returns-in-MonthWide c = rw c.in-MonthWide.is c.format_name-in-MonthWide.ensures

pub returns-in-WdayWide : goal.returns-in-WdayWide
unfolding step_text rule_text name_text place_of
returns-in-WdayWide c = rw c.in-WdayWide.is c.format_name-in-WdayWide.ensures

pub returns-in-Run : goal.returns-in-Run
returns-in-Run c = rw c.in-Run.is c.put_run.ensures
