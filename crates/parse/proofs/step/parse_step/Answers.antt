-- At once, from the digits, or by its kind.
use lib.ListN.{drop, length-drop, length-replicate}
use mathlib.Core.Path.{sym, ◌∙◌}
use native.Mathlib.Omega.{arith}
use Rattle.meaning.specs.OpenedBooks.{book_in}
use Rattle.meaning.specs.Reading.{read_step}
use Rattle.numerals.proofs.Integers.{widened}
use Rattle.parse.proofs.step.StepReads.{quick-read, quick-within}
use Rattle.parse.proofs.step.parse_step.Goals as goal

pub returns-in-Times : goal.returns-in-Times
unfolding read_step
returns-in-Times c = rw (c.in-Times.is, length-replicate) c.pass.ensures

pub overflow_add-result : goal.overflow_add-result
overflow_add-result c =
    let a = c.args in
    let at = a.cursor.at in
    omega (arith, quick-within a.pattern.now (drop at a.text.now) a.edition a.step c.requires.held (sym c.in-Some.is ∙ c.quick_digits.ensures), length-drop at a.text.now)

pub returns-in-Some : goal.returns-in-Some
returns-in-Some c =
    let a = c.args in
    let s = drop a.cursor.at a.text.now in
    let law = quick-read a.pattern.now s a.edition (book_in a.book.now) a.current_year a.step c.requires.held (sym c.in-Some.is ∙ c.quick_digits.ensures) in
    rw (law, widened c.in-Some.read.size (omega arith), c.quick_unit.ensures)
