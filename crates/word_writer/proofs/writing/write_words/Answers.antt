-- The check, the length of the text where the most that the words can write does not fit, and the text.
use Rattle.std.specs.Prelude.{Ok}
use Prim.Native.Nat.{◌≤◌}
use lib.ListN.{length, take}
use mathlib.Core.Path.{◌≡◌, sym, ap, ◌∙◌}
use native.Mathlib.Omega.{arith}
use Rattle.std.proofs.lemmas.Result.{err_from_is_err_and}
use Rattle.meaning.specs.Answers.{fields_check}
use Rattle.meaning.specs.OpenedBooks.{book_in}
use Rattle.word_writer.proofs.Answers.{refused, with-room, no_room}
use Rattle.word_writer.proofs.Bounds.{words-fit}
use Rattle.word_writer.specs.Written.{words_text}
use Rattle.words.specs.Pieces.{steps_of}
use Rattle.word_writer.proofs.writing.write_words.Goals as goal
use Rattle.word_writer.proofs.writing.write_words.Goals.{then-out-most_of+else-out-n, else-out-most_of}

pub returns-in_err-fields_check : goal.returns-in_err-fields_check
returns-in_err-fields_check c =
    let a = c.args in
    let answered = err_from_is_err_and c.from_residual.result c.from_residual.ensures.1 in
    rw (answered.1, answered.2)
    (refused (book_in a.book.now) (steps_of a.tail.now (take a.used a.tail.now)) a.f a.out.now (sym c.fields_check.ensures ∙ c.in_err-fields_check.was))

pub returns-then-out-n : goal.returns-then-out-n
returns-then-out-n c =
    let a = c.args in
    let fine : fields_check a.f ≡ Ok tt = sym c.fields_check.ensures ∙ c.in_ok-fields_check.was in
    let n = c.words_length-n.ensures in
    rw n (no_room (book_in a.book.now) (steps_of a.tail.now (take a.used a.tail.now)) a.f a.out.now fine (omega (arith, n, c.if-out-n.true)))

pub put_words-requires : goal.put_words-requires
put_words-requires c =
    let a = c.args in
    let fine : fields_check a.f ≡ Ok tt = sym c.fields_check.ensures ∙ c.in_ok-fields_check.was in
    let fits : length (words_text a.book.now a.tail.now a.f (take a.used a.tail.now)) ≤ length a.out.now = elim c.if-out-most_of.branch [
      | then-out-most_of+else-out-n w ↦ omega (arith, w.words_length-n.ensures, w.if-out-n.false)
      | else-out-most_of w ↦ omega (arith, w.if-out-most_of.false, c.most_of.ensures, words-fit a.book.now a.tail.now a.f fine (take a.used a.tail.now))
    ] in
    record { f_value = fine; used_in_bounds = c.requires.used_in_bounds; tail_in_bounds = fits }

pub returns : goal.returns
returns c =
    let a = c.args in
    let fine : fields_check a.f ≡ Ok tt = sym c.fields_check.ensures ∙ c.in_ok-fields_check.was in
    let fits : length (words_text a.book.now a.tail.now a.f (take a.used a.tail.now)) ≤ length a.out.now = elim c.if-out-most_of.branch [
      | then-out-most_of+else-out-n w ↦ omega (arith, w.words_length-n.ensures, w.if-out-n.false)
      | else-out-most_of w ↦ omega (arith, w.if-out-most_of.false, c.most_of.ensures, words-fit a.book.now a.tail.now a.f fine (take a.used a.tail.now))
    ] in
    let laid = c.put_words.ensures in
    let room = with-room (book_in a.book.now) (steps_of a.tail.now (take a.used a.tail.now)) a.f a.out.now fine fits in
    (ap Ok (laid.end ∙ omega arith) ∙ room.0, laid.held ∙ room.1)
