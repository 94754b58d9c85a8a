-- At once; or by its name, its rule or its pieces, the row being as it was.
use mathlib.Core.Path.{◌∙◌}
use Rattle.meaning.specs.OpenedBooks.{book_in}
use Rattle.word_reader.proofs.quick.quick_word.Goals as goal

pub returns-in-Some : goal.returns-in-Some
returns-in-Some c =
    let a = c.args in
    rw c.in-Some.is at (c.hot_word.ensures.quick (book_in a.book.now) a.current_year a.tail.now)

pub returns-in-Some-hot_name : goal.returns-in-Some-hot_name
returns-in-Some-hot_name c =
    let a = c.args in
    rw (c.hot_word.ensures.lost c.in_default.is, c.in-Some-hot_name.is) at (c.hot_name.ensures.quick a.current_year a.tail.now)

pub returns-then-code-eq22 : goal.returns-then-code-eq22
returns-then-code-eq22 c =
    let a = c.args in
    let same = c.hot_name.ensures.lost c.in_default-hot_name.is ∙ c.hot_word.ensures.lost c.in_default.is in
    rw same at (c.quick_rule.ensures a.tail.now)
