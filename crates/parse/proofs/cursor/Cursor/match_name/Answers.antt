-- What the matcher finds in the remaining text.
use lib.ListN.{drop, length-drop}
use mathlib.Core.Path.{sym, ◌∙◌}
use native.Mathlib.Omega.{arith}
use Rattle.names.proofs.tables.Answers.{found_name, found_within}
use Rattle.meaning.specs.Names.{names}
use Rattle.meaning.specs.OpenedBooks.{book_in}
use Rattle.meaning.specs.Readers.{match_name}
use Rattle.parse.proofs.cursor.Moves.{matched-name, matched-nothing}
use Rattle.pattern.proofs.parts.Walks.{rest_all}
use Rattle.parse.proofs.cursor.Cursor.match_name.Goals as goal

pub overflow_add-result : goal.overflow_add-result
overflow_add-result c =
    let a = c.args in
    let at = a.self.at in
    let rest = rest_all at a.text.now in
    let names' = names (book_in a.book.now) a.list in
    let found = sym (rw rest at c.match_name.ensures) ∙ c.in-Some.is in
    let s = drop at a.text.now in
    omega (arith, (found_within names' s (found_name (match_name names' s) found)).1, length-drop at a.text.now)

pub returns-in-Some : goal.returns-in-Some
returns-in-Some c =
    let a = c.args in
    let at = a.self.at in
    let rest = rest_all at a.text.now in
    let names' = names (book_in a.book.now) a.list in
    let found = sym (rw rest at c.match_name.ensures) ∙ c.in-Some.is in
    sym (matched-name at names' (drop at a.text.now) found)

pub returns-in-None : goal.returns-in-None
returns-in-None c =
    let a = c.args in
    let at = a.self.at in
    let rest = rest_all at a.text.now in
    let names' = names (book_in a.book.now) a.list in
    let found = sym (rw rest at c.match_name.ensures) ∙ c.in-None.is in
    sym (matched-nothing at names' (drop at a.text.now) found)
