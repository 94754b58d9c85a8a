-- The check of the year, and then the list.
use Rattle.std.specs.Prelude.{Ok}
use mathlib.Core.Path.{refl, ◌∙◌}
use lib.ListN.{take}
use mir.Syntax.{w32}
use mir.ValLaws.{to_z-of_z}
use borrow.Author.Rules.{rules}
use Rattle.std.proofs.lemmas.Result.{err_from_is_err_and}
use Rattle.meaning.specs.OpenedBooks.{book_in}
use Rattle.meaning.specs.Prepared.{read_steps, narrowed, list_steps_check, read_lines_steps, read_list_steps, list_rows_steps}
use Rattle.words.specs.Pieces.{steps_of}
use Rattle.prepared.proofs.NarrowCells.{steps_cells}
use Rattle.prepared.proofs.listing.list_in_year.Goals as goal

pub returns-in_err-current_year_check-clause-listed : goal.returns-in_err-current_year_check-clause-listed
unfolding read_list_steps list_steps_check
returns-in_err-current_year_check-clause-listed c =
    let year = rw (to_z-of_z w32 c.args.year c.ranges.year) at c.current_year_check.ensures in
    let refused = err_from_is_err_and c.from_residual.result c.from_residual.ensures.1 in
    rw (refused.1, refused.2, ← year, c.in_err-current_year_check.was) refl

pub returns-in_err-current_year_check-clause-rows : goal.returns-in_err-current_year_check-clause-rows
unfolding list_rows_steps list_steps_check
returns-in_err-current_year_check-clause-rows c =
    let year = rw (to_z-of_z w32 c.args.year c.ranges.year) at c.current_year_check.ensures in
    rw (← year, c.in_err-current_year_check.was) refl

pub returns-clause-listed : goal.returns-clause-listed
unfolding read_list_steps list_steps_check
returns-clause-listed c =
    let year = rw (to_z-of_z w32 c.args.year c.ranges.year) at c.current_year_check.ensures in
    c.lay_list.ensures.listed ∙ rw (← year, c.in_ok-current_year_check.was) refl

pub returns-clause-rows : goal.returns-clause-rows
unfolding list_rows_steps list_steps_check read_lines_steps
returns-clause-rows c =
    let a = c.args in
    let year = rw (to_z-of_z w32 a.year c.ranges.year) at c.current_year_check.ensures in
    let book = book_in a.book.now in
    let ss = steps_of a.tail.now (take a.used a.tail.now) in
    let laid = c.lay_list.ensures.rows (λ line. narrowed (read_steps (Ok tt) a.choices book ss line a.year))
    (λ line row left code long given. steps_cells a.choices book ss line.now a.year long (search rules)) in
    laid ∙ rw (← year, c.in_ok-current_year_check.was) refl
