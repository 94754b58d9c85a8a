-- The writer with the pair of a number and the book of a row, where they stand for some.
use native.Mathlib.Omega.{arith}
use borrow.Author.Tests.{le-leb, lt-leb}
use mathlib.Core.Path.{refl, sym, ◌∙◌}
use mir.Syntax.{w32}
use mir.ValLaws.{to_z-of_z}
use Rattle.sheet.proofs.named.sheet_write_by.Goals as goal

pub returns-then-choices-gt7 : goal.returns-then-choices-gt7
returns-then-choices-gt7 c =
    let a = c.args in
    rw (lt-leb a.choices 7 (omega arith)) (record { number = refl; row = refl }, refl)

pub returns-then-not-is_book : goal.returns-then-not-is_book
returns-then-not-is_book c =
    let a = c.args in
    rw (le-leb a.choices 7 (omega arith), sym c.is_book.ensures ∙ c.if-not-is_book.true) (record { number = refl; row = refl }, refl)

pub returns : goal.returns
returns c =
    let m = c in
    let s = m in
    let a = s.args in
    let wrote = rw (to_z-of_z w32 a.year s.ranges.year, to_z-of_z w32 a.offset s.ranges.offset, c.pair_of.ensures) at c.write.ensures in
    rw (le-leb a.choices 7 (omega arith), sym m.is_book.ensures ∙ m.if-not-is_book.false) wrote
