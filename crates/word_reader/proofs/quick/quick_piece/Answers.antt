-- Nothing is kept of a piece that carries nothing, and its value of any other.
use Rattle.std.specs.Prelude.{Some, None}
use mathlib.Core.Path.{refl, sym, ◌∙◌}
use native.Mathlib.Omega.{arith}
use Rattle.meaning.specs.OpenedBooks.{book_in}
use Rattle.words.specs.Pieces.{piece_step}
use Rattle.word_reader.proofs.exact.Pieces.{piece_inside}
use Rattle.word_reader.proofs.keeping.Moving.{moves-part, kept-nothing}
use Rattle.word_reader.specs.Quick.{gave_one}
use Rattle.word_reader.proofs.quick.quick_piece.Goals as goal

pub keep-requires : goal.keep-requires
keep-requires c =
    let a = c.args in
    let gave = sym c.read_piece.ensures ∙ c.in-Ok.is in
    let inside = piece_inside a.choices (book_in a.book.now) a.current_year a.text.now a.from.next (piece_step a.tail.now a.piece) gave c.requires.1 in
    (c.requires.0, omega (arith, c.requires), omega (arith, inside, c.requires))

pub returns-in-None : goal.returns-in-None
returns-in-None c =
    let a = c.args in
    let to = c.in-Ok.read.next.at in
    let gave = sym c.read_piece.ensures ∙ c.in-Ok.is in
    let moves' = moves-part a.choices (book_in a.book.now) a.current_year a.text.now a.from.next (piece_step a.tail.now a.piece) c.requires.1 gave in
    let moves = rw c.in-None.is at moves' in
    record { beyond = refl; reads = (gave_one None a.from.next to, moves, kept-nothing) }

pub returns-in-Some : goal.returns-in-Some
returns-in-Some c =
    let a = c.args in
    let carried = c.in-Some.carried in
    let to = c.in-Ok.read.next.at in
    let gave = sym c.read_piece.ensures ∙ c.in-Ok.is in
    let moves' = moves-part a.choices (book_in a.book.now) a.current_year a.text.now a.from.next (piece_step a.tail.now a.piece) c.requires.1 gave in
    let moves = rw c.in-Some.is at moves' in
    let kept = c.keep.ensures in
    record { beyond = kept.2; reads = (gave_one (Some carried) a.from.next to, rw kept.0 moves, kept.1) }
