use mathlib.Core.Path.{◌≡◌, refl, ◌∙◌}
use Prim.Native.Nat.{◌-◌}
use native.Mathlib.Nat.{add-zero, sub-zero}
use native.Mathlib.Omega.{arith}
use lib.ListN.{length-set}
use Rattle.names.specs.Letters.{bytes_of}
use Rattle.names.proofs.letters.Laws.{length-bytes, lay-byte}
use Rattle.names.proofs.letters.put_bytes.Goals as goal

pub loop-j-init : goal.loop-j-init
loop-j-init c = (refl, rw (add-zero, sub-zero))

pub loop-j-preserved : goal.loop-j-preserved
loop-j-preserved c =
    let L = c.loop-j in
    let a = c.args in
    (simp length-set L.invariant.0, lay-byte L.out a.at a.n L.j L.rest c.loop-j-test.true ∙ L.invariant.1)

pub returns : goal.returns
unfolding bytes_of
returns c =
    let L = c.loop-j in
    let a = c.args in
    let e : a.n - L.j ≡ 0 = omega (arith, c.loop-j-test.false) in
    record {
      end = omega (arith, length-bytes a.n a.number);
      held = rw e at L.invariant.1;
    }
