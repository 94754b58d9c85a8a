-- The list with the choices of a number and the book of a row, where they stand for some and there is room.
use mathlib.Core.Path.{refl, sym, ◌∙◌}
use native.Mathlib.Omega.{arith}
use borrow.Author.Tests.{le-leb, lt-leb}
use lib.ListN.{length}
use mir.Syntax.{w32}
use mir.ValLaws.{to_z-of_z}
use Rattle.sheet.proofs.prepares.sheet_prepared_read_list.Goals as goal

pub returns-then-choices-gt7 : goal.returns-then-choices-gt7
returns-then-choices-gt7 c = rw (lt-leb c.args.choices 7 (omega arith)) (record { number = refl; row = refl }, refl)

pub returns-then-not-is_book : goal.returns-then-not-is_book
returns-then-not-is_book c = rw (le-leb c.args.choices 7 (omega arith), sym c.is_book.ensures ∙ c.if-not-is_book.true) (record { number = refl; row = refl }, refl)

pub returns-then-answer-lt2 : goal.returns-then-answer-lt2
returns-then-answer-lt2 c =
    let a = c.args in
    rw (le-leb a.choices 7 (omega arith), sym c.is_book.ensures ∙ c.if-not-is_book.false, lt-leb 2 (length a.answer.now) (omega arith)) (record { number = refl; row = refl }, refl)

pub returns : goal.returns
returns c =
    let s = c in
    let a = s.args in
    let reads = rw (to_z-of_z w32 a.year s.ranges.year, c.choices_of.ensures) at c.read_list.ensures in
    rw (le-leb a.choices 7 (omega (arith, c.if-choices-gt7.false)), sym c.is_book.ensures ∙ c.if-not-is_book.false, le-leb 2 (length a.answer.now) (omega (arith, c.if-answer-lt2.false))) reads
