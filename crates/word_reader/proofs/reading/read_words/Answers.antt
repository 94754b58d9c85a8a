-- Quickly; or exactly, over what that left in the row.
use lib.IntN.{nat_abs}
use lib.ListN.{take}
use mathlib.Core.List.{[]}
use mir.Syntax.{w32}
use mir.ValLaws.{to_z-of_z}
use native.Mathlib.Omega.{arith}
use Rattle.meaning.specs.Answers.{text_check}
use Rattle.meaning.specs.OpenedBooks.{book_in}
use Rattle.meaning.specs.Whole.{walk}
use Rattle.words.specs.Pieces.{steps_of}
use Rattle.word_reader.proofs.reading.Checked.{steps-read}
use Rattle.word_reader.proofs.keeping.Rows.{given-quick, given-over}
use Rattle.word_reader.proofs.reading.read_words.Goals as goal

pub returns-in-Some : goal.returns-in-Some
returns-in-Some c =
    let s = c in
    let a = s.args in
    let tail = a.tail.now in
    let quick = rw (to_z-of_z w32 a.year s.ranges.year) at c.read_quickly.ensures in
    let whole = rw c.in-Some.is at quick.0.reads in
    rw (steps-read a.choices (book_in a.book.now) (steps_of tail (take a.used tail)) a.text.now a.year s.requires.2, quick.1 c.in-Some.is, whole.2)
    (given-quick whole.0 whole.1 s.requires.1 whole.3)

pub returns-in-None : goal.returns-in-None
returns-in-None c =
    let s = c in
    let a = s.args in
    let tail = a.tail.now in
    let book = book_in a.book.now in
    let ss = steps_of tail (take a.used tail) in
    let text = a.text.now in
    let quick = c.read_quickly in
    rw (steps-read a.choices book ss text a.year s.requires.2)
    (given-over (text_check text) (walk a.choices book (nat_abs a.year) 0 0 ss text []) s.requires.1 (omega (arith, quick.auto.answer)) quick.ensures.0.beyond
    (rw (to_z-of_z w32 a.year s.ranges.year) at c.read_exactly.ensures))
