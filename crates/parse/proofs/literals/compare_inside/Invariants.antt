-- What is compared so far is the same, and the rest decides.
use lib.ListN.{length}
use mathlib.Core.Path.{◌≡◌}
use Prim.Native.Nat.{◌+◌, ◌-◌}
use Rattle.parse.specs.Literals.{compared_from}
use Rattle.pattern.specs.First.{unescaped}
use Rattle.pattern.specs.Unescaping.{bytes_left}
use Rattle.parse.proofs.literals.compare_inside.Given as goal

abbrev pub invariant-loop-i : goal.invariant-loop-i
invariant-loop-i l =
    let left = bytes_left l.i-iterator.b in
    let next = l.i-iterator.a.start in
    (compared_from next left l.text ≡ compared_from (l.end - length (unescaped l.inside)) (unescaped l.inside) l.text)
    × (next + length left ≡ l.end) × (l.i-iterator.a.end ≡ l.end)
