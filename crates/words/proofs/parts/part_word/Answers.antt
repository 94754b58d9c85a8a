-- Each kind of part, by what it holds.
use mathlib.Core.Path.{refl, ◌∙◌}
use Rattle.words.proofs.parts.Words.{run-content, quotes-content, quoted-content, open-content, open-lost}
use Rattle.words.specs.Packing.{part_word, held_in}
use native.Mathlib.Omega.{arith}
use Rattle.words.proofs.parts.part_word.Goals as goal

pub slice_bounds-hold-count : goal.slice_bounds-hold-count
slice_bounds-hold-count c = omega (arith, c.requires.next.two c.in-Quoted.is)

pub slice_bounds-hold-start : goal.slice_bounds-hold-start
slice_bounds-hold-start c = omega (arith, c.requires.next.two c.in-Quoted.is)

pub hold-requires : goal.hold-requires
unfolding held_in
hold-requires c =
    (rw (quoted-content c.args.pattern.now c.args.part c.in-Quoted.is) at c.requires.length_bound.1, c.requires.length_bound.2, c.requires.length_bound.3)

pub hold-requires-in-Open : goal.hold-requires-in-Open
unfolding held_in
hold-requires-in-Open c =
    let unclosed = c.in-Open.is in
    let lost = c.ends_in_quote.ensures ∙ open-lost c.args.pattern.now c.args.part c.requires.next unclosed in
    (rw lost (rw (open-content c.args.pattern.now c.args.part unclosed) at c.requires.length_bound.1), c.requires.length_bound.2, c.requires.length_bound.3)

pub returns-in-Run : goal.returns-in-Run
unfolding part_word held_in
returns-in-Run c = rw (run-content c.args.pattern.now c.args.part c.in-Run.is) (c.run_word.ensures, record { start = omega arith; laid = refl })

pub returns-in-Quotes : goal.returns-in-Quotes
unfolding part_word held_in
returns-in-Quotes c = rw (quotes-content c.args.pattern.now c.args.part c.in-Quotes.is) (c.times_word.ensures, record { start = omega arith; laid = refl })

pub returns-in-Quoted : goal.returns-in-Quoted
unfolding part_word held_in
returns-in-Quoted c = rw (quoted-content c.args.pattern.now c.args.part c.in-Quoted.is) c.hold.ensures

pub returns-in-Open : goal.returns-in-Open
unfolding part_word held_in
returns-in-Open c =
    let unclosed = c.in-Open.is in
    let lost = c.ends_in_quote.ensures ∙ open-lost c.args.pattern.now c.args.part c.requires.next unclosed in
    rw (open-content c.args.pattern.now c.args.part unclosed, ← lost) c.hold-in-Open.ensures
