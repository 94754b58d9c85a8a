-- The checks in their order, and then the lines.
use mathlib.Core.Path.{◌≡◌, refl, ◌∙◌}
use borrow.Author.Rules.{rules}
use mir.Syntax.{w32}
use mir.ValLaws.{to_z-of_z}
use Rattle.std.proofs.lemmas.Result.{err_from_is_err_and}
use Rattle.laws.proofs.Told.{by_whole}
use Rattle.meaning.specs.Lists.{rows_of, read_lines, read_list, list_rows}
use Rattle.meaning.specs.OpenedBooks.{book_in}
use Rattle.meaning.specs.Whole.{read}
use Rattle.lists.specs.LentRows.{rows_in}
use Rattle.lists.proofs.Checks.{list-checks}
use Rattle.lists.proofs.cells.Line.{pattern-cells}
use Rattle.lists.proofs.read_list.Goals as goal

pub returns-in_err-trust_check : goal.returns-in_err-trust_check
unfolding read_list list_rows
returns-in_err-trust_check c =
    let a = c.args in
    let rows = rows_of a.days.now a.months.now a.years.now a.codes.now in
    let once = rw (to_z-of_z w32 a.year (search rules)) at c.trust_check.ensures in
    let refused = err_from_is_err_and c.from_residual.result c.from_residual.ensures.1 in
    let checks = list-checks a.choices.edition a.pattern.now a.text.now a.year rows in
    (rw (refused.1, refused.2) (by_whole (rw (checks, ← once, c.in_err-trust_check.was) refl)), rw (checks, ← once, c.in_err-trust_check.was) refl)

pub returns : goal.returns
unfolding read_list list_rows read_lines
returns c =
    let a = c.args in
    let rows = rows_of a.days.now a.months.now a.years.now a.codes.now in
    let once = rw (to_z-of_z w32 a.year (search rules)) at c.trust_check.ensures in
    let checks = list-checks a.choices.edition a.pattern.now a.text.now a.year rows in
    let laid = c.lay_list.ensures.rows (λ line. read a.choices (book_in a.book.now) a.pattern.now line a.year)
    (λ line row left code long given. pattern-cells a.choices a.book.now a.pattern.now line.now a.year long (search rules)) in
    let done : rows_in c.lay_list.new.rows ≡ list_rows a.choices (book_in a.book.now) a.pattern.now a.text.now a.year rows = laid ∙ rw (checks, ← once, c.in_ok-trust_check.was) refl in
    (by_whole (c.lay_list.ensures.listed ∙ rw (checks, ← once, c.in_ok-trust_check.was) refl), search rules)
