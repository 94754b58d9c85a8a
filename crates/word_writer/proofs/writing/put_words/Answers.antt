use Prim.Native.Nat.{◌+◌, ◌<◌, ◌≤◌}
use lib.ListN.{length, take, drop, get_or, length-append, length-take}
use lib.Seq.{get_or-take}
use mathlib.Core.List.{◌++◌}
use mathlib.Core.Bool.{true}
use mathlib.Core.Path.{◌≡◌, refl, sym, ◌∙◌}
use native.Mathlib.Omega.{arith}
use Rattle.laws.proofs.Fields.{allowed}
use Rattle.laws.proofs.Laid.{sets-append}
use Rattle.laws.specs.Laid.{Laid}
use Rattle.meaning.specs.OpenedBooks.{book_in}
use Rattle.word_writer.proofs.Texts.{next_word, no_word, small-numbers, numbers-are, quick-word}
use Rattle.word_writer.specs.Written.{word_text, words_text, plain_year, is_quick, quick_text}
use Rattle.word_writer.proofs.writing.put_words.Goals as goal
use Rattle.word_writer.proofs.writing.put_words.Goals.{then-is_quick, else-is_quick}

pub loop-w-init : goal.loop-w-init
loop-w-init c = (refl, omega arith, refl)

pub put_quick-at-requires : goal.put_quick-at-requires
put_quick-at-requires c =
    let a = c.args in
    let L = c.loop-w in
    let w = get_or a.tail.now L.w-index 0 in
    let here : L.w-index < a.used = omega (arith, length-take a.used a.tail.now) in
    let same = get_or-take a.used a.tail.now L.w-index 0 here in
    let ws = take a.used a.tail.now in
    let next : words_text a.book.now a.tail.now a.f (drop L.w-index ws) ≡ word_text a.book.now a.tail.now a.f w ++ words_text a.book.now a.tail.now a.f (drop (L.w-index + 1) ws) =
    next_word (book_in a.book.now) a.tail.now a.f a.used c.requires.used_in_bounds L.w-index here in
    let quick : is_quick (plain_year a.f) w ≡ c.is_quick.result = rw (← (numbers-are a.f).year, ← c.numbers_of-numbers.ensures) (sym (rw same at c.is_quick.ensures)) in
    let quickly : word_text a.book.now a.tail.now a.f w ≡ quick_text c.numbers_of-numbers.result w = rw c.numbers_of-numbers.ensures
    (quick-word (book_in a.book.now) a.tail.now a.f w (quick ∙ c.if-is_quick.true)) in
    rw same (record {
      small = rw c.numbers_of-numbers.ensures (small-numbers a.f (allowed a.f c.requires.f_value));
      w_value = sym (rw same at c.is_quick.ensures) ∙ c.if-is_quick.true;
      w_in_bounds = omega (arith, rw (length-append, quickly) at (rw next at L.invariant.1), L.invariant.2, c.requires.tail_in_bounds);
    })

pub put_slow-at-requires : goal.put_slow-at-requires
put_slow-at-requires c =
    let a = c.args in
    let L = c.loop-w in
    let w = get_or a.tail.now L.w-index 0 in
    let here : L.w-index < a.used = omega (arith, length-take a.used a.tail.now) in
    let same = get_or-take a.used a.tail.now L.w-index 0 here in
    let ws = take a.used a.tail.now in
    let next : words_text a.book.now a.tail.now a.f (drop L.w-index ws) ≡ word_text a.book.now a.tail.now a.f w ++ words_text a.book.now a.tail.now a.f (drop (L.w-index + 1) ws) =
    next_word (book_in a.book.now) a.tail.now a.f a.used c.requires.used_in_bounds L.w-index here in
    let quick : is_quick (plain_year a.f) w ≡ c.is_quick.result = rw (← (numbers-are a.f).year, ← c.numbers_of-numbers.ensures) (sym (rw same at c.is_quick.ensures)) in
    rw same (record {
      f_value = c.requires.f_value;
      w_value = quick ∙ c.if-is_quick.false;
      w_in_bounds = omega (arith, rw length-append at (rw next at L.invariant.1), L.invariant.2, c.requires.tail_in_bounds);
    })

pub loop-w-preserved : goal.loop-w-preserved
loop-w-preserved c =
    let a = c.args in
    let L = c.loop-w in
    let w = get_or a.tail.now L.w-index 0 in
    let here : L.w-index < a.used = omega (arith, length-take a.used a.tail.now) in
    let same = get_or-take a.used a.tail.now L.w-index 0 here in
    let ws = take a.used a.tail.now in
    let next : words_text a.book.now a.tail.now a.f (drop L.w-index ws) ≡ word_text a.book.now a.tail.now a.f w ++ words_text a.book.now a.tail.now a.f (drop (L.w-index + 1) ws) =
    next_word (book_in a.book.now) a.tail.now a.f a.used c.requires.used_in_bounds L.w-index here in
    let quick : is_quick (plain_year a.f) w ≡ c.is_quick.result = rw (← (numbers-are a.f).year, ← c.numbers_of-numbers.ensures) (sym (rw same at c.is_quick.ensures)) in
    let quickly : (c.is_quick.result ≡ true) → word_text a.book.now a.tail.now a.f w ≡ quick_text c.numbers_of-numbers.result w = λ e. rw c.numbers_of-numbers.ensures
    (quick-word (book_in a.book.now) a.tail.now a.f w (quick ∙ e)) in
    let wrote : Laid L.out c.if-is_quick.out L.at c.if-is_quick.at (word_text a.book.now a.tail.now a.f w) = elim c.if-is_quick.branch [
      | then-is_quick w1 ↦ rw (w1.out-is, w1.at-is, quickly w1.if-is_quick.true) (rw same at w1.put_quick-at.ensures)
      | else-is_quick w1 ↦ rw (w1.out-is, w1.at-is) (rw same at w1.put_slow-at.ensures)
    ] in
    let kept : length c.if-is_quick.out ≡ length L.out = elim c.if-is_quick.branch [
      | then-is_quick w1 ↦ rw w1.out-is w1.put_quick-at.auto.out
      | else-is_quick w1 ↦ rw w1.out-is w1.put_slow-at.auto.out
    ] in (
      rw (wrote.held, wrote.end, ← sets-append, ← next) L.invariant.0,
      omega (arith, rw length-append at (rw next at L.invariant.1), wrote.end),
      kept ∙ L.invariant.2,
    )

pub returns : goal.returns
returns c =
    let a = c.args in
    let L = c.loop-w in
    let all : a.used ≤ L.w-index = omega (arith, length-take a.used a.tail.now, c.requires.used_in_bounds) in
    let none = no_word (book_in a.book.now) a.tail.now a.f a.used c.requires.used_in_bounds L.w-index all in
    record { end = omega (arith, rw none at L.invariant.1); held = rw none at L.invariant.0 }
