use mathlib.Core.List.{[], ◌++◌}
use mathlib.Core.Path.{refl, ◌∙◌}
use Prim.Native.Nat.{◌<◌}
use native.Mathlib.Omega.{arith}
use lib.ListN.{length}
use Rattle.meaning.specs.OpenedBooks.{book_in}
use Rattle.words.specs.Pieces.{pieces_in}
use Rattle.word_reader.proofs.keeping.Moving.{moves-none, moves-then, kept-none, kept_then}
use Rattle.word_reader.proofs.quick.Pieces.{piece-more, pieces-all}
use Rattle.word_reader.proofs.quick.quick_pieces.Goals as goal

pub loop-k-init : goal.loop-k-init
loop-k-init c =
    let a = c.args in
    ([], moves-none a.choices (book_in a.book.now) a.current_year a.text.now a.from.next c.requires.1, kept-none, refl, refl, omega arith)

pub loop-k-preserved : goal.loop-k-preserved
loop-k-preserved c =
    let a = c.args in
    let L = c.loop-k in
    let count = c.piece_count-count.ensures in
    let more : L.k < length (pieces_in a.w) = omega (arith, c.loop-k-test.true, count.0) in
    let one = rw c.in_ok-moved.was at c.quick_piece.ensures.reads in (
      one.0 ++ L.invariant.0,
      rw (piece-more a.tail.now a.w L.k more c.piece_in-piece.ensures) (moves-then a.choices (book_in a.book.now) a.current_year a.text.now L.invariant.1 one.1),
      kept_then L.invariant.2 one.2,
      c.quick_piece.ensures.beyond ∙ L.invariant.3,
      omega (arith, c.quick_piece.auto.answer, L.invariant.4),
      omega (arith, c.loop-k-test.true),
    )

pub returns : goal.returns
returns c =
    let a = c.args in
    let L = c.loop-k in
    let all = pieces-all a.tail.now a.w L.k (omega (arith, c.loop-k-test.false, c.piece_count-count.ensures.0)) in
    record { beyond = L.invariant.3; reads = (L.invariant.0, rw all at L.invariant.1, L.invariant.2) }
