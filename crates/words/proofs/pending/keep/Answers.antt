-- The word is laid or there is none.
use mathlib.Core.Path.{refl}
use native.Mathlib.Omega.{arith}
use borrow.Author.Tests.{eq-eqb, ne_eqb}
use Rattle.words.proofs.pending.keep.Goals as goal

pub returns-then-w-eq0 : goal.returns-then-w-eq0
returns-then-w-eq0 c = rw (eq-eqb _ _ c.if-w-eq0.true) (record { end = omega arith; held = refl })

pub bounds-tail-used : goal.bounds-tail-used
bounds-tail-used c = omega (arith, rw (ne_eqb _ _ c.if-w-eq0.false) at c.requires)

pub returns : goal.returns
returns c = rw (ne_eqb _ _ c.if-w-eq0.false) (record { end = omega arith; held = refl })
