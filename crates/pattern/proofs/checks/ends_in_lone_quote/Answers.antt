use mathlib.Core.Path.{◌≡◌, refl, sym, ap, ◌∙◌}
use Prim.Native.Nat.{◌+◌, ◌-◌, ◌<◌}
use native.Mathlib.Omega.{arith}
use borrow.Author.Tests.{lt-ltb, le-ltb}
use lib.ListN.{length}
use Rattle.meaning.specs.declared.Part.{Part}
use Rattle.pattern.proofs.checks.LoneQuote.{lone-turn, lone-end, no-lone, found-first}
use Rattle.pattern.proofs.parts.Scans.{past_end}
use Rattle.pattern.proofs.parts.Walks.{found_in}
use Rattle.pattern.proofs.checks.ends_in_lone_quote.Goals as goal
use Rattle.pattern.proofs.checks.ends_in_lone_quote.Goals.{then-n-eq0-via-then-n-eq0, then-n-eq0-via-else-n-eq0+then-pattern-n-ne39}

pub returns-then-n-eq0 : goal.returns-then-n-eq0
returns-then-n-eq0 c =
    let p = c.args.pattern.now in
    elim c.then-n-eq0.branch [
      | then-n-eq0-via-then-n-eq0 w ↦ sym (no-lone p (past_end p (length p - 1) (omega arith)))
      | then-n-eq0-via-else-n-eq0+then-pattern-n-ne39 w ↦ sym (no-lone p w.if-pattern-n-ne39.true)
    ]

pub loop-part-init : goal.loop-part-init
loop-part-init c =
    let starts = c.parts_of-part-items.ensures.starts in
    rw (c.into_iter-part-iterator.ensures.into_iter_gives, starts.1) (starts.0, refl)

pub overflow_add-part : goal.overflow_add-part
overflow_add-part c =
    let n = found_in c.loop-part.invariant.0 c.in-Some.ensures.steps.2.0 in
    omega (arith, n.some, n.fits, ap (λ (q : Part). q.start) n.itself)

pub returns-then-part-n : goal.returns-then-part-n
returns-then-part-n c =
    let p = c.args.pattern.now in
    let at = c.loop-part.part-iterator.place in
    let n = found_in c.loop-part.invariant.0 c.in-Some.ensures.steps.2.0 in
    let here = ap (λ (q : Part). q.start) n.itself in
    let last = lone-end p at (omega (arith, here)) c.if-pattern-n-ne39.false in
    sym (c.loop-part.invariant.1 ∙ last ∙ lt-ltb at (length p) (omega (arith, n.some, n.fits)))

pub loop-part-preserved : goal.loop-part-preserved
loop-part-preserved c =
    let p = c.args.pattern.now in
    let at = c.loop-part.part-iterator.place in
    let turn = c.in-Some.ensures.steps in
    let n = found_in c.loop-part.invariant.0 turn.2.0 in
    let here = ap (λ (q : Part). q.start) n.itself in
    let more : at + 1 < length p = omega (arith, n.some, n.fits, here) in
    (turn.1 ∙ c.loop-part.invariant.0, rw turn.2.1 (c.loop-part.invariant.1 ∙ lone-turn p at c.in-Some.part more (found-first n)))

pub returns : goal.returns
returns c =
    let p = c.args.pattern.now in
    let at = c.loop-part.part-iterator.place in
    let end = rw c.loop-part.invariant.0 at c.in-None.ensures.steps.2 in
    sym (c.loop-part.invariant.1 ∙ lone-end p at (omega (arith, end)) c.if-pattern-n-ne39.false ∙ le-ltb at (length p) end)
