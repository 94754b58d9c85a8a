-- The record written with the book of a row, where it is one and there is room.
use mathlib.Core.Path.{refl, sym, ◌∙◌}
use native.Mathlib.Omega.{arith}
use borrow.Author.Tests.{le-leb, lt-leb}
use lib.ListN.{length}
use mir.Syntax.{w32}
use mir.ValLaws.{to_z-of_z}
use Rattle.sheet.proofs.prepares.sheet_prepared_write.Goals as goal

pub returns-then-not-is_book : goal.returns-then-not-is_book
returns-then-not-is_book c = rw (sym c.is_book.ensures ∙ c.if-not-is_book.true) (record { number = refl; row = refl }, refl)

pub returns-then-answer-lt2 : goal.returns-then-answer-lt2
returns-then-answer-lt2 c =
    let a = c.args in
    rw (sym c.is_book.ensures ∙ c.if-not-is_book.false, lt-leb 2 (length a.answer.now) (omega arith)) (record { number = refl; row = refl }, refl)

pub returns : goal.returns
returns c =
    let s = c in
    let a = s.args in
    let wrote = rw (to_z-of_z w32 a.year s.ranges.year, to_z-of_z w32 a.offset s.ranges.offset) at c.write.ensures in
    rw (sym c.is_book.ensures ∙ c.if-not-is_book.false, le-leb 2 (length a.answer.now) (omega (arith, c.if-answer-lt2.false))) wrote
