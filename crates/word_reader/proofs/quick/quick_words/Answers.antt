use mathlib.Core.List.{[], ◌++◌}
use mathlib.Core.Bool.{false}
use mathlib.Core.Logic.{◌⊎◌, inl, inr}
use mathlib.Core.Path.{◌≡◌, refl, sym, ◌∙◌}
use Prim.Native.Nat.{◌+◌, ◌≤◌}
use native.Mathlib.Omega.{arith}
use lib.ListN.{length, get_or, drop}
use Rattle.meaning.specs.OpenedBooks.{book_in}
use Rattle.words.specs.Pieces.{steps_in}
use Rattle.word_reader.proofs.exact.Pieces.{words-done}
use Rattle.word_reader.proofs.keeping.Rows.{zero-places, no-mask, beyond-row, counted-row, beyond-counted}
use Rattle.word_reader.proofs.quick.Pieces.{word_on}
use Rattle.word_reader.proofs.quick.quick_words.Goals as goal
use Rattle.word_reader.proofs.quick.quick_words.Goals.{else-choices-via-then-choices+else-moved-text, else-choices-via-else-choices}

pub loop-i-init : goal.loop-i-init
loop-i-init c =
    let s = c in
    let zeros = zero-places s.args.answer.now s.requires.1 s.requires.3 c.lay_zeros.ensures in
    ([], 0, refl, rw (sym (beyond-row [] zeros)) at zeros, no-mask, omega arith, refl, omega arith)

pub returns-in_err-moved : goal.returns-in_err-moved
returns-in_err-moved c =
    let s = c in
    let L = c.loop-i in
    let q = c.quick_word.ensures in
    rw c.from_residual.ensures (record { beyond = q.beyond ∙ beyond-row L.invariant.0 L.invariant.3 ∙ beyond-row [] (zero-places s.args.answer.now s.requires.1 s.requires.3 c.lay_zeros.ensures); reads = tt })

pub loop-i-preserved : goal.loop-i-preserved
loop-i-preserved c =
    let s = c in
    let a = s.args in
    let L = c.loop-i in
    let tail = a.tail.now in
    let there = c.loop-i-test.true in
    let q = c.quick_word.ensures in
    let one = rw c.in_ok-moved.was at q.reads in
    let kept = one.2.keeps L.invariant.0 _ L.invariant.3 L.invariant.4 in
    let on = word_on a.choices (book_in a.book.now) a.current_year tail a.text.now a.used s.requires.0 L.invariant.0 L.invariant.1 L.i there one.1 in (
      one.0 ++ L.invariant.0,
      L.invariant.1 + length (steps_in tail (get_or tail L.i 0)),
      sym on ∙ L.invariant.2,
      kept.0,
      kept.1,
      one.1.inside,
      omega (arith, c.quick_word.auto.answer, L.invariant.6),
      omega (arith, there),
    )

pub returns-then-moved-text : goal.returns-then-moved-text
returns-then-moved-text c =
    let s = c in
    let L = c.loop-i in
    record { beyond = beyond-row L.invariant.0 L.invariant.3 ∙ beyond-row [] (zero-places s.args.answer.now s.requires.1 s.requires.3 c.lay_zeros.ensures); reads = tt }

pub returns : goal.returns
returns c =
    let s = c in
    let a = s.args in
    let L = c.loop-i in
    let tail = a.tail.now in
    let text = a.text.now in
    let gave = L.invariant.0 in
    let none_left : (a.choices.strict ≡ false) ⊎ (length text ≤ L.moved.next) =
    elim c.else-choices.branch [
      | else-choices-via-then-choices+else-moved-text t ↦ inr t.if-moved-text.false
      | else-choices-via-else-choices e ↦ inl e.if-choices.false
    ] in
    let ends = words-done a.choices (book_in a.book.now) a.current_year tail text a.used s.requires.0 gave L.invariant.1 L.moved.next L.i 0 c.loop-i-test.false none_left in
    let zeros = beyond-row [] (zero-places s.args.answer.now s.requires.1 s.requires.3 c.lay_zeros.ensures) in
    let row = rw (L.invariant.3, L.invariant.4, counted-row L.moved.next gave (drop 48 _), zeros) at c.finish.ensures in
    record { beyond = beyond-counted L.moved.next gave row; reads = (L.moved.next, gave, sym L.invariant.2 ∙ ends, row) }
