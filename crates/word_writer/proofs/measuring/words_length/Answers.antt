use Prim.Native.Nat.{◌+◌, ◌<◌, ◌≤◌}
use lib.ListN.{length, take, drop, get_or, length-append, length-take}
use lib.Seq.{get_or-take}
use mathlib.Core.Path.{◌≡◌}
use native.Mathlib.Omega.{arith}
use Rattle.meaning.specs.OpenedBooks.{book_in}
use Rattle.word_writer.proofs.Bounds.{words-fit, most-all}
use Rattle.word_writer.proofs.Texts.{next_word, no_word}
use Rattle.word_writer.specs.Written.{word_text, words_text}
use Rattle.word_writer.proofs.measuring.words_length.Goals as goal

pub overflow_add-n : goal.overflow_add-n
overflow_add-n c =
    let a = c.args in
    let L = c.loop-w in
    let here : L.w-index < a.used = omega (arith, length-take a.used a.tail.now) in
    let parted : L.n + (length (word_text a.book.now a.tail.now a.f (get_or a.tail.now L.w-index 0)) + length (words_text a.book.now a.tail.now a.f (drop (L.w-index + 1) (take a.used a.tail.now))))
    ≡ length (words_text a.book.now a.tail.now a.f (take a.used a.tail.now)) =
    rw (next_word (book_in a.book.now) a.tail.now a.f a.used c.requires.used_in_bounds L.w-index here, length-append) at L.invariant in
    omega (
      arith,
      parted,
      rw (get_or-take a.used a.tail.now L.w-index 0 here) at c.word_length-n.ensures,
      words-fit a.book.now a.tail.now a.f c.requires.f_value (take a.used a.tail.now),
      most-all (take a.used a.tail.now),
      length-take a.used a.tail.now,
      c.requires.used_bound,
    )

pub loop-w-preserved : goal.loop-w-preserved
loop-w-preserved c =
    let a = c.args in
    let L = c.loop-w in
    let here : L.w-index < a.used = omega (arith, length-take a.used a.tail.now) in
    let parted : L.n + (length (word_text a.book.now a.tail.now a.f (get_or a.tail.now L.w-index 0)) + length (words_text a.book.now a.tail.now a.f (drop (L.w-index + 1) (take a.used a.tail.now))))
    ≡ length (words_text a.book.now a.tail.now a.f (take a.used a.tail.now)) =
    rw (next_word (book_in a.book.now) a.tail.now a.f a.used c.requires.used_in_bounds L.w-index here, length-append) at L.invariant in
    omega (arith, parted, rw (get_or-take a.used a.tail.now L.w-index 0 here) at c.word_length-n.ensures)

pub returns : goal.returns
returns c =
    let a = c.args in
    let L = c.loop-w in
    let all : a.used ≤ L.w-index = omega (arith, length-take a.used a.tail.now, c.requires.used_in_bounds) in
    omega (arith, rw (no_word (book_in a.book.now) a.tail.now a.f a.used c.requires.used_in_bounds L.w-index all) at L.invariant)
