use mathlib.Core.Path.{refl, sym, ◌∙◌}
use native.Mathlib.Omega.{arith}
use Rattle.std.proofs.lemmas.Result.{err_from_is_err_and}
use Rattle.books.proofs.shelves.Laws.{list_at, shelf-there, total, counted, bad-list, good-list, lists-done}
use Rattle.books.proofs.shelves.check_names.Goals as goal

pub loop-shelf-init : goal.loop-shelf-init
unfolding total
loop-shelf-init c = (refl, refl)

pub check_shelf-requires : goal.check_shelf-requires
check_shelf-requires c =
    let L = c.loop-shelf in
    let there = shelf-there L.shelf-index c.loop-shelf-test.true in
    let all = counted L.first L.shelf-index (list_at L.shelf-index) there L.invariant.0 in
    omega arith

pub returns-in_err-check_shelf : goal.returns-in_err-check_shelf
returns-in_err-check_shelf c =
    let a = c.args in
    let L = c.loop-shelf in
    let there = shelf-there L.shelf-index c.loop-shelf-test.true in
    let found = sym c.check_shelf.ensures ∙ c.in_err-check_shelf.was in
    let refused = err_from_is_err_and c.from_residual.result c.from_residual.ensures.1 in
    rw (refused.1, refused.2) (sym (bad-list a.bytes.now a.places.now L.first L.shelf-index (list_at L.shelf-index) there found) ∙ L.invariant.1)

pub overflow_add-first : goal.overflow_add-first
overflow_add-first c =
    let L = c.loop-shelf in
    let there = shelf-there L.shelf-index c.loop-shelf-test.true in
    omega (arith, counted L.first L.shelf-index (list_at L.shelf-index) there L.invariant.0)

pub loop-shelf-preserved : goal.loop-shelf-preserved
loop-shelf-preserved c =
    let a = c.args in
    let L = c.loop-shelf in
    let there = shelf-there L.shelf-index c.loop-shelf-test.true in
    let fine = sym c.check_shelf.ensures ∙ c.in_ok-check_shelf.was in (
      counted L.first L.shelf-index (list_at L.shelf-index) there L.invariant.0,
      sym (good-list a.bytes.now a.places.now L.first L.shelf-index (list_at L.shelf-index) there fine) ∙ L.invariant.1,
    )

pub returns : goal.returns
returns c =
    let L = c.loop-shelf in
    sym (lists-done L.shelf-index _ _ c.loop-shelf-test.false) ∙ L.invariant.1
