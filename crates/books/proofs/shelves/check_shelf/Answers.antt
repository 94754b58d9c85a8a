use mathlib.Core.Path.{sym, ◌∙◌}
use native.Mathlib.Nat.{add-zero, sub-zero}
use native.Mathlib.Omega.{arith}
use Rattle.books.specs.Places.{earlier}
use Rattle.books.specs.Shelves.{meant}
use Rattle.books.proofs.shelves.Laws.{bad-name, good-name, names-done}
use Rattle.books.proofs.shelves.check_shelf.Goals as goal

pub loop-count-init : goal.loop-count-init
unfolding earlier
loop-count-init c = rw (add-zero, sub-zero)

pub returns-then-not-is_good : goal.returns-then-not-is_good
returns-then-not-is_good c =
    let a = c.args in
    let L = c.loop-count in
    let good = c.is_good in
    sym
    (bad-name (meant a.shelf) a.bytes.now a.places.now a.first L.count a.shelf.count (omega (arith, c.requires.places_len, c.requires.count_bound)) c.loop-count-test.true
    (sym good.ensures ∙ c.if-not-is_good.true))
    ∙ L.invariant

pub loop-count-preserved : goal.loop-count-preserved
loop-count-preserved c =
    let a = c.args in
    let L = c.loop-count in
    let good = c.is_good in
    sym
    (good-name (meant a.shelf) a.bytes.now a.places.now a.first L.count a.shelf.count (omega (arith, c.requires.places_len, c.requires.count_bound)) c.loop-count-test.true
    (sym good.ensures ∙ c.if-not-is_good.false))
    ∙ L.invariant

pub returns : goal.returns
returns c =
    let a = c.args in
    let L = c.loop-count in
    sym (names-done (meant a.shelf) L.count a.shelf.count _ _ _ c.loop-count-test.false) ∙ L.invariant
