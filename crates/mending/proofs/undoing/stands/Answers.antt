use borrow.Author.Tests.{lt-leb}
use lib.Dec.{eqb}
use lib.ListN.{take, drop, replicate, length-drop, length-replicate}
use mathlib.Core.Path.{◌≡◌, sym, ◌∙◌}
use Prim.Native.Nat.{◌+◌, ◌-◌}
use native.Mathlib.Omega.{arith}
use Rattle.std.proofs.Common.{rules, tests}
use Rattle.std.proofs.lemmas.Iterator.{YieldsList-from_slice}
use Rattle.std.proofs.lemmas.Iterator.Search.{all_from_yields_List}
use Rattle.mending.proofs.undoing.Laws.{all_stand, begins-short}
use Rattle.mending.proofs.undoing.stands.Goals as goal

pub returns-then-times-pattern : goal.returns-then-times-pattern
returns-then-times-pattern c =
    let a = c.args in
    let k : a.place + a.times - a.place ≡ a.times = omega arith in
    let all = all_from_yields_List (λ x. eqb x a.b) _ _ c.all.result c.all.ensures.ran (YieldsList-from_slice (take (a.place + a.times - a.place) (drop a.place a.pattern.now)) cc) (λ x b q k. search (rules, tests)) in
    all ∙ rw k (all_stand a.b a.times (drop a.place a.pattern.now) (omega (arith, length-drop a.place a.pattern.now)))

pub returns-else-times-pattern : goal.returns-else-times-pattern
returns-else-times-pattern c =
    let a = c.args in
    let rest = drop a.place a.pattern.now in
    rw (lt-leb _ _ c.if-times-pattern.false)
    (sym (begins-short (replicate a.times a.b) rest (omega (arith, length-drop a.place a.pattern.now, length-replicate a.times a.b, c.if-times-pattern.false))))
