-- Twice four bytes, or the few that there are.
use mathlib.Core.Path.{◌≡◌}
use Prim.Native.Nat.{◌+◌, ◌-◌, ◌*◌, min}
use native.Mathlib.Omega.{arith}
use lib.ListN.{length, take, drop, length-drop}
use lib.Seq.{take_all}
use Rattle.names.specs.Letters.{number_of}
use Rattle.names.proofs.letters.Laws.{number_at, bytes-taken}
use Rattle.names.proofs.letters.bytes_at.Goals as goal

pub returns-then-text-at-lt8 : goal.returns-then-text-at-lt8
returns-then-text-at-lt8 c =
    let a = c.args in
    let t = a.text.now in
    let m : min 8 (length t - a.at) ≡ length t - a.at = omega arith in
    rw (m, take_all 8 (drop a.at t) (rw length-drop (omega arith))) c.few_at.ensures

pub returns : goal.returns
returns c =
    let a = c.args in
    let e : c.four.result + 4294967296 * c.four-2.result ≡ number_of (take 8 (drop a.at a.text.now)) =
    omega (arith, number_at a.at a.text.now) in
    rw e (bytes-taken a.at a.text.now (λ i. omega (arith, c.type_inv.text i)))
