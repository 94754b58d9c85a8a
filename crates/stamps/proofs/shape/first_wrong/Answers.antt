-- A text that ends too soon is searched to its end.
use mathlib.Core.Path.{sym, ◌∙◌}
use Prim.Native.Nat.{◌-◌}
use native.Mathlib.Omega.{arith}
use lib.ListN.{length}
use Rattle.stamps.proofs.shape.Wrongs.{wrong-short}
use Rattle.stamps.proofs.shape.first_wrong.Goals as goal

pub returns : goal.returns
returns c =
    let a = c.args in
    c.search-2.ensures ∙ sym (wrong-short (length a.text.now - a.at) a.count a.shape a.at a.text.now (omega arith) (omega arith))
