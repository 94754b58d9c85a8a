use lib.ListN.{length}
use mathlib.Core.Path.{◌≡◌, sym, ◌∙◌}
use native.Mathlib.Omega.{arith}
use Rattle.laws.proofs.Lists.{end-found, end-further, end-last}
use Rattle.lists.proofs.lines.line_end.Goals as goal

pub returns-then-text-end-eq10 : goal.returns-then-text-end-eq10
returns-then-text-end-eq10 c =
    sym (end-found c.args.text.now c.loop-end.end (omega arith) c.if-text-end-eq10.true) ∙ c.loop-end.invariant

pub loop-end-preserved : goal.loop-end-preserved
loop-end-preserved c =
    end-further c.args.text.now c.loop-end.end (omega arith) c.if-text-end-eq10.false ∙ c.loop-end.invariant

pub returns : goal.returns
returns c =
    let all : c.loop-end.end ≡ length c.args.text.now = omega (arith, c.loop-end-test.false, c.loop-end.auto.end-end, c.requires) in
    rw (← all) (sym (end-last c.args.text.now c.loop-end.end (omega arith)) ∙ c.loop-end.invariant)
