use mathlib.Core.Path.{◌≡◌}
use Prim.Native.Nat.{◌+◌}
use native.Mathlib.Omega.{arith}
use lib.Dec.{eqb}
use lib.ListN.{length, get_or, drop_of_length-le}
use mir.Val.{bool_byte}
use Rattle.laws.proofs.Lists.{newlines-further, newlines-none}
use Rattle.laws.proofs.Tests.{by-test}
use Rattle.meaning.specs.Lists.{newline}
use Rattle.lists.proofs.counting.count_newlines.Goals as goal

pub loop-b-preserved : goal.loop-b-preserved
loop-b-preserved c =
    let L = c.loop-b in
    let s = c.args.text.now in
    let turn = newlines-further s L.b-index c.loop-b-test.true in
    let one : c.from-n.result ≡ bool_byte (eqb (get_or s L.b-index 0) newline) = c.from-n.ensures in
    by-test (eqb (get_or s L.b-index 0) newline)
    (λ e.
    let n = rw e at one in
    let t = rw e at turn in
    (omega (arith, n, L.invariant.0), omega (arith, n, t, L.invariant.1)))
    (λ e.
    let n = rw e at one in
    let t = rw e at turn in
    (omega (arith, n, L.invariant.0), omega (arith, n, t, L.invariant.1)))

pub returns : goal.returns
returns c =
    let L = c.loop-b in
    let s = c.args.text.now in
    let e = rw (drop_of_length-le s c.loop-b-test.false) at L.invariant.1 in
    omega (arith, e, newlines-none)
