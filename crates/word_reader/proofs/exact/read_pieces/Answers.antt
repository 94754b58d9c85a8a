use Rattle.std.specs.Prelude.{Some, None}
use lib.ListN.{length, get_or, drop}
use mathlib.Core.List.{[], ◌∷◌}
use mathlib.Core.Bool.{false}
use mathlib.Core.Logic.{◌⊎◌, inl, inr}
use mathlib.Core.Path.{◌≡◌, refl, sym, ◌∙◌}
use Prim.Native.Nat.{◌≤◌, ◌<◌}
use native.Mathlib.Omega.{arith}
use Rattle.meaning.specs.Answers.{details}
use Rattle.meaning.specs.OpenedBooks.{book_in}
use Rattle.words.specs.Pieces.{piece_step, pieces_in}
use Rattle.word_reader.proofs.exact.Fitting.{walk-fit, why-fit}
use Rattle.word_reader.proofs.exact.Pieces.{word-ends, piece-stops, piece-goes-on, words_left, words-done, piece_inside}
use Rattle.word_reader.proofs.keeping.Moving.{kept-nothing}
use Rattle.word_reader.proofs.keeping.Rows.{zero_row, no-mask, beyond-row, counted-row, given-quick, refusal-over}
use Rattle.word_reader.proofs.exact.read_pieces.Goals as goal
use Rattle.word_reader.proofs.exact.read_pieces.Goals.{in-Some, in_default}
use Rattle.word_reader.proofs.exact.read_pieces.Goals.{then-choices+else-at-text, else-choices}

pub loop-i-init : goal.loop-i-init
loop-i-init c =
    let zeros = zero_row c.args.answer.now c.requires.2 c.lay_zeros.ensures in
    ([], refl, rw (sym (beyond-row [] zeros)) at zeros, no-mask, omega arith, omega arith, omega arith, omega arith, refl)

pub loop-i-preserved-then-piece_count-k : goal.loop-i-preserved-then-piece_count-k
loop-i-preserved-then-piece_count-k c =
    let a = c.args in
    let L = c.loop-i in
    let count = c.piece_count.ensures in
    let there = c.loop-i-test.true in
    let all : L.k ≡ length (pieces_in (get_or a.tail.now L.i 0)) = omega (arith, c.if-piece_count-k.true, count.0, L.invariant.5) in
    let ends = word-ends a.choices (book_in a.book.now) a.current_year a.tail.now a.text.now a.used c.requires.0 L.invariant.0 L.part L.at L.i L.k there all in
    (L.invariant.0, sym ends ∙ L.invariant.1, L.invariant.2, L.invariant.3, L.invariant.4, omega arith, omega (arith, L.invariant.6, count, L.invariant.5), omega (arith, there), L.invariant.8)

pub give_refusal-requires : goal.give_refusal-requires
give_refusal-requires c =
    let a = c.args in
    let L = c.loop-i in
    let count = c.piece_count.ensures in
    let there = c.loop-i-test.true in
    let more : L.k < length (pieces_in (get_or a.tail.now L.i 0)) = omega (arith, c.if-piece_count-k.false, count.0) in
    let gave = sym c.read_piece.ensures ∙ c.in-Err.is in
    let stops = piece-stops a.choices (book_in a.book.now) a.current_year a.tail.now a.text.now a.used c.requires.0 L.invariant.0 L.part L.at L.i L.k there more c.piece_in-piece.ensures gave in
    let fit = walk-fit a.choices (book_in a.book.now) a.current_year a.tail.now a.text.now a.used (omega (arith, c.requires.0)) (omega (arith, c.requires.1)) in
    (omega arith, omega (arith, L.invariant.8, c.lay_zeros.auto.row, c.requires.2), rw c.in_part.ensures (why-fit fit (sym L.invariant.1 ∙ stops)))

pub returns-in-Err : goal.returns-in-Err
returns-in-Err c =
    let a = c.args in
    let L = c.loop-i in
    let count = c.piece_count.ensures in
    let there = c.loop-i-test.true in
    let more : L.k < length (pieces_in (get_or a.tail.now L.i 0)) = omega (arith, c.if-piece_count-k.false, count.0) in
    let gave = sym c.read_piece.ensures ∙ c.in-Err.is in
    let stops = piece-stops a.choices (book_in a.book.now) a.current_year a.tail.now a.text.now a.used c.requires.0 L.invariant.0 L.part L.at L.i L.k there more c.piece_in-piece.ensures gave in
    let zeros = zero_row a.answer.now c.requires.2 c.lay_zeros.ensures in
    rw (← rw stops at L.invariant.1)
    (refusal-over _ c.requires.2 (omega (arith, L.invariant.8, c.lay_zeros.auto.row)) (beyond-row L.invariant.0 L.invariant.2 ∙ beyond-row [] zeros) (rw c.in_part.ensures at c.give_refusal.ensures))

pub keep-kept-requires : goal.keep-kept-requires
keep-kept-requires c =
    let a = c.args in
    let L = c.loop-i in
    let gave = sym c.read_piece.ensures ∙ c.in-Ok.is in
    let inside = piece_inside a.choices (book_in a.book.now) a.current_year a.text.now L.at (piece_step a.tail.now c.piece_in-piece.result) gave L.invariant.4 in
    (omega (arith, L.invariant.8, c.lay_zeros.auto.row, c.requires.2), omega (arith, L.invariant.4, c.requires.1), omega (arith, inside, c.requires.1))

pub loop-i-preserved : goal.loop-i-preserved
loop-i-preserved c =
    let s = c in
    let a = s.args in
    let L = c.loop-i in
    let count = c.piece_count.ensures in
    let tail = a.tail.now in
    let text = a.text.now in
    let book = book_in a.book.now in
    let there = c.loop-i-test.true in
    let more : L.k < length (pieces_in (get_or tail L.i 0)) = omega (arith, c.if-piece_count-k.false, count.0) in
    let gave = sym c.read_piece.ensures ∙ c.in-Ok.is in
    let moved = piece-goes-on a.choices (book_in a.book.now) a.current_year a.tail.now a.text.now a.used s.requires.0 L.invariant.0 L.part L.at L.i L.k there more c.piece_in-piece.ensures gave in
    let inside = piece_inside a.choices book a.current_year text L.at (piece_step tail c.piece_in-piece.result) gave L.invariant.4 in
    let from = L.at in
    let to = c.in-Ok.read.next.at in
    elim c.match-read.branch [
      | in-Some w ↦
          let kept = w.keep-kept.ensures.1.keeps L.invariant.0 _ L.invariant.2 L.invariant.3 in (
            record { carried = Some w.in-Some.carried; start = from; end = to } ∷ L.invariant.0,
            rw w.in-Some.is at (sym moved ∙ L.invariant.1),
            rw w.answer-is kept.0,
            rw w.mask-is kept.1,
            inside,
            omega (arith, more),
            omega (arith, L.invariant.6),
            omega (arith, there),
            rw w.answer-is (omega (arith, w.keep-kept.auto.answer, L.invariant.8)),
          )
      | in_default w ↦
          let kept = kept-nothing.keeps L.invariant.0 _ L.invariant.2 L.invariant.3 in (
            record { carried = None; start = from; end = to } ∷ L.invariant.0,
            rw w.in_default.is at (sym moved ∙ L.invariant.1),
            rw w.answer-is kept.0,
            rw w.mask-is kept.1,
            inside,
            omega (arith, more),
            omega (arith, L.invariant.6),
            omega (arith, there),
            rw w.answer-is L.invariant.8,
          )
    ]

pub give_refusal-requires-then-at-text : goal.give_refusal-requires-then-at-text
unfolding details
give_refusal-requires-then-at-text c =
    let L = c.loop-i in
    (omega arith, omega (arith, L.invariant.8, c.lay_zeros.auto.row, c.requires.2), (omega (arith, L.invariant.4, c.requires.1), tt))

pub returns-then-at-text : goal.returns-then-at-text
returns-then-at-text c =
    let a = c.args in
    let L = c.loop-i in
    let ends = words_left a.choices (book_in a.book.now) a.current_year a.tail.now a.text.now a.used c.requires.0 L.invariant.0 L.part L.at L.i L.k c.loop-i-test.false c.if-choices.true c.if-at-text.true in
    let zeros = zero_row a.answer.now c.requires.2 c.lay_zeros.ensures in
    rw (← rw ends at L.invariant.1)
    (refusal-over _ c.requires.2 (omega (arith, L.invariant.8, c.lay_zeros.auto.row)) (beyond-row L.invariant.0 L.invariant.2 ∙ beyond-row [] zeros) c.give_refusal-then-at-text.ensures)

pub returns : goal.returns
returns c =
    let a = c.args in
    let L = c.loop-i in
    let none_left : (a.choices.strict ≡ false) ⊎ (length a.text.now ≤ L.at) =
    elim c.if-choices.branch [ then-choices+else-at-text t ↦ inr t.if-at-text.false | else-choices e ↦ inl e.if-choices.false ] in
    let ends = words-done a.choices (book_in a.book.now) a.current_year a.tail.now a.text.now a.used c.requires.0 L.invariant.0 L.part L.at L.i L.k c.loop-i-test.false none_left in
    let zeros = beyond-row [] (zero_row a.answer.now c.requires.2 c.lay_zeros.ensures) in
    let row = rw (L.invariant.2, L.invariant.3, counted-row L.at L.invariant.0 (drop 48 _), zeros) at c.finish.ensures in
    rw (← rw ends at L.invariant.1) (given-quick L.at L.invariant.0 c.requires.2 row)
