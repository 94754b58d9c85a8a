-- The line from its place to its end, read by itself, or none.
use borrow.Author.Rules.{rules}
use mathlib.Core.Path.{sym, ap}
use mir.Syntax.{w32}
use mir.ValLaws.{to_z-of_z}
use native.Mathlib.Omega.{arith}
use Rattle.laws.proofs.Lists.{end-inside, no-line-read}
use Rattle.lists.specs.declared.lines.Places.{Places}
use Rattle.meaning.specs.OpenedBooks.{book_in}
use Rattle.lists.proofs.line.Places.{line-placed}
use Rattle.lists.proofs.line.read_line.Goals as goal

pub returns-then-text-at : goal.returns-then-text-at
returns-then-text-at c =
    let a = c.args in
    sym (no-line-read a.choices (book_in a.book.now) a.pattern.now a.text.now a.year a.at (omega arith))

pub slice_bounds-parse_with-end : goal.slice_bounds-parse_with-end
slice_bounds-parse_with-end c =
    let a = c.args in
    let end = ap (λ (line : Places). line.end) c.line_at-end.ensures in
    omega (arith, end, end-inside a.text.now a.at (omega arith))

pub returns : goal.returns
returns c =
    let a = c.args in
    let year = to_z-of_z w32 a.year (search rules) in
    line-placed a.choices (book_in a.book.now) a.pattern.now a.text.now a.year a.at (omega arith) _ _ c.line_at-end.ensures (rw year at c.parse_with-reading.ensures.whole)
