use Rattle.std.proofs.Common.{rules}
use lib.ListN.{length, get_or, length-set}
use mathlib.Core.Path.{◌≡◌, refl, sym, ◌∙◌}
use Prim.Native.Nat.{◌+◌, ◌≤◌, ◌<◌}
use native.Mathlib.Omega.{arith}
use Rattle.books.specs.Places.{names_by}
use Rattle.books.proofs.places.Laws.{no_length, no-letters, name-more, all-walked}
use Rattle.books.proofs.places.find_names.Goals as goal

pub loop-place-init : goal.loop-place-init
unfolding names_by
loop-place-init c = (c.requires, refl)

pub returns-in_err-length : goal.returns-in_err-length
returns-in_err-length c =
    let L = c.loop-place in
    let here : L.place-index < 64 = omega arith in
    rw c.from_residual.ensures
    (sym (no_length c.args.bytes.now L.places L.place-index L.at here (search rules)) ∙ L.invariant.1)

pub returns-then-bytes-next : goal.returns-then-bytes-next
returns-then-bytes-next c =
    let L = c.loop-place in
    let e : c.in_ok-length.field-0.now ≡ get_or c.args.bytes.now L.at 0 = search rules in
    let there : L.at < length c.args.bytes.now = search rules in
    sym (no-letters c.args.bytes.now L.places L.place-index L.at (omega arith) there (omega (arith, e))) ∙ L.invariant.1

pub loop-place-preserved : goal.loop-place-preserved
loop-place-preserved c =
    let L = c.loop-place in
    let e : c.in_ok-length.field-0.now ≡ get_or c.args.bytes.now L.at 0 = search rules in
    let there : L.at < length c.args.bytes.now = search rules in
    let byte = c.type_inv.bytes L.at in
    let next : L.at + 1 + c.in_ok-length.field-0.now ≡ L.at + 1 + get_or c.args.bytes.now L.at 0 = omega (arith, e) in (
      simp length-set L.invariant.0,
      rw next (sym (name-more c.args.bytes.now L.places L.place-index L.at (omega arith) L.invariant.0 there (omega arith) (omega (arith, e))) ∙ L.invariant.1),
    )

pub returns : goal.returns
returns c =
    let L = c.loop-place in
    let all : 64 ≤ L.place-index = omega arith in
    sym (all-walked c.args.bytes.now L.places L.place-index L.at L.invariant.0 all) ∙ L.invariant.1
