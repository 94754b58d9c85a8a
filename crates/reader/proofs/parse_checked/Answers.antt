-- What the checks of the text say, and else the walk.
use borrow.Author.Rules.{rules}
use mathlib.Core.Path.{refl, sym, ◌∙◌}
use mir.Syntax.{w32}
use mir.ValLaws.{to_z-of_z}
use Rattle.std.proofs.lemmas.Result.{err_from_is_err_and}
use Rattle.laws.proofs.Checks.{text-short}
use Rattle.meaning.specs.OpenedBooks.{book_in}
use Rattle.reader.proofs.Passed.{read-passed}
use Rattle.reader.proofs.parse_checked.Goals as goal

pub returns-in_err-text_check : goal.returns-in_err-text_check
returns-in_err-text_check c =
    let a = c.args in
    let refused = err_from_is_err_and c.from_residual.result c.from_residual.ensures.1 in
    rw (refused.1, refused.2, read-passed a.choices (book_in a.book.now) a.pattern.now a.text.now a.year c.requires c.text_check.ensures, c.in_err-text_check.was) refl

pub parse_parts-requires : goal.parse_parts-requires
parse_parts-requires c = text-short _ (sym c.text_check.ensures ∙ c.in_ok-text_check.was)

pub returns : goal.returns
returns c =
    let a = c.args in
    let year = rw (to_z-of_z w32 a.year (search rules)) at c.size.ensures in
    rw (read-passed a.choices (book_in a.book.now) a.pattern.now a.text.now a.year c.requires c.text_check.ensures, c.in_ok-text_check.was, ← year) c.parse_parts.ensures
