-- A text that passes its checks is read, and any other is refused; either answer fits the row.
use native.Mathlib.Omega.{arith}
use mathlib.Core.Path.{sym}
use mir.Syntax.{w32}
use mir.ValLaws.{to_z-of_z}
use Rattle.laws.proofs.Checks.{text-short}
use Rattle.meaning.specs.OpenedBooks.{book_in}
use Rattle.reader.proofs.Passed.{read-passed}
use Rattle.rows.proofs.Fits.{read_fits, text-fits}
use Rattle.rows.proofs.readings.read_row.Goals as goal

pub parse_parts-requires : goal.parse_parts-requires
parse_parts-requires c = text-short _ (sym c.in-Ok.ensures)

pub give_reading-requires : goal.give_reading-requires
give_reading-requires c =
    let a = c.args in
    let book = book_in a.book.now in
    let year = rw (to_z-of_z w32 a.year c.ranges.year) at c.size.ensures in
    let reads = read-passed a.choices book a.pattern.now a.text.now a.year c.requires.1 c.in-Ok.ensures in
    let fits = read_fits a.choices book a.pattern.now a.text.now a.year (omega arith) (omega arith) c.ranges.year in
    (c.requires.0, rw (c.parse_parts.ensures, year, ← reads) fits)

pub give_refusal-requires : goal.give_refusal-requires
give_refusal-requires c = (omega arith, c.requires.0, rw (← c.in-Err.ensures) at (text-fits c.args.text.now (omega arith)))

pub returns-in-Ok : goal.returns-in-Ok
returns-in-Ok c =
    let a = c.args in
    let year = rw (to_z-of_z w32 a.year c.ranges.year) at c.size.ensures in
    let reads = read-passed a.choices (book_in a.book.now) a.pattern.now a.text.now a.year c.requires.1 c.in-Ok.ensures in
    rw (reads, ← year, ← c.parse_parts.ensures) c.give_reading.ensures

pub returns-in-Err : goal.returns-in-Err
returns-in-Err c =
    let a = c.args in
    rw (read-passed a.choices (book_in a.book.now) a.pattern.now a.text.now a.year c.requires.1 c.in-Err.ensures) c.give_refusal.ensures
