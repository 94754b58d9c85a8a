-- The reader with the choices of a number, where it stands for some.
use native.Mathlib.Omega.{arith}
use borrow.Author.Tests.{le-leb, lt-leb}
use mir.Syntax.{w32}
use mir.ValLaws.{to_z-of_z}
use Rattle.meaning.proofs.Books.{english-unopened}
use Rattle.meaning.specs.Names.{english}
use Rattle.sheet.proofs.Rooms.{chosen, no-choices}
use Rattle.sheet.specs.Numbers.{choices_of, of_reading}
use Rattle.sheet.specs.Sheet.{read_of}
use Rattle.sheet.proofs.sheet_read_with.Goals as goal

pub returns-then-choices-gt7 : goal.returns-then-choices-gt7
returns-then-choices-gt7 c =
    let a = c.args in
    let n = a.choices in
    no-choices (of_reading n) a.answer.now (read_of (choices_of n) english a.pattern.now a.text.now a.year a.answer.now) (lt-leb n 7 (omega arith))

pub returns : goal.returns
returns c =
    let s = c in
    let a = s.args in
    let n = a.choices in
    let read = rw (to_z-of_z w32 a.year s.ranges.year, c.choices_of.ensures, english-unopened) at c.read.ensures in
    chosen (of_reading n) a.answer.now (read_of (choices_of n) english a.pattern.now a.text.now a.year a.answer.now) (le-leb n 7 (omega arith)) read
