-- The answer of the reader, where there is room for it: that of the pattern and the year, or that of the text.
use native.Mathlib.Omega.{arith}
use mathlib.Core.Path.{sym, ◌∙◌}
use mir.Syntax.{w32}
use mir.ValLaws.{to_z-of_z}
use Rattle.meaning.specs.Answers.{read_answer}
use Rattle.meaning.specs.OpenedBooks.{book_in}
use Rattle.meaning.specs.Whole.{read}
use Rattle.rows.proofs.Fits.{trust-fits}
use Rattle.sheet.proofs.Rooms.{room, no_room}
use Rattle.sheet.proofs.Untrusted.{untrusted-read}
use borrow.Author.Rules.{rules}
use Rattle.sheet.proofs.read.Goals as goal

pub returns-then-row-lt48 : goal.returns-then-row-lt48
returns-then-row-lt48 c =
    let a = c.args in
    no_room 48 a.row.now (read_answer (read a.choices (book_in a.book.now) a.pattern.now a.text.now a.year)) (omega arith)

pub read_row-requires : goal.read_row-requires
read_row-requires c =
    let told = c.trust_check.ensures in
    (search rules, sym told ∙ c.in-Ok.is)

pub give_refusal-requires : goal.give_refusal-requires
give_refusal-requires c =
    let s = c in
    let told = rw (to_z-of_z w32 s.args.year s.ranges.year, c.in-Err.is) at c.trust_check.ensures in
    (search rules, search rules, rw (sym told) at (trust-fits s.args.choices.edition s.args.pattern.now s.args.year (omega arith) s.ranges.year))

pub returns-in-Ok : goal.returns-in-Ok
returns-in-Ok c =
    let s = c in
    let a = s.args in
    let given = rw (to_z-of_z w32 a.year s.ranges.year) at c.read_row.ensures in
    room 48 a.row.now (read_answer (read a.choices (book_in a.book.now) a.pattern.now a.text.now a.year)) (omega arith) given

pub returns-in-Err : goal.returns-in-Err
returns-in-Err c =
    let s = c in
    let a = s.args in
    let told = rw (to_z-of_z w32 a.year s.ranges.year, c.in-Err.is) at c.trust_check.ensures in
    room 48 a.row.now (read_answer (read a.choices (book_in a.book.now) a.pattern.now a.text.now a.year)) (omega arith)
    (rw (untrusted-read a.choices (book_in a.book.now) a.pattern.now a.text.now a.year _ (sym told)) c.give_refusal.ensures)
