-- Each verdict in its words.
use native.Mathlib.Omega.{arith}
use mathlib.Core.Path.{ap}
use mir.Facts.{Fits-below}
use Rattle.refusals.specs.declared.Told.{Told}
use Rattle.pattern_check.proofs.line.Words.{yes-text, no_text, refused-text}
use borrow.Author.Rules.{rules}
use Rattle.pattern_check.proofs.line.put_verdict.Goals as goal

pub put_bytes-requires : goal.put_bytes-requires
put_bytes-requires c =
    let text = rw (c.in-Yes.is, yes-text) at c.requires.verdict_in_bounds in
    omega (arith, text)

pub overflow_cast-part : goal.overflow_cast-part
overflow_cast-part c = Fits-below {n = 65536} tt (rw c.in-No.is at c.requires.part_fits)

pub put_counted-requires : goal.put_counted-requires
put_counted-requires c =
    rw (c.in-No.is, no_text) at c.requires.verdict_in_bounds

pub returns-in-Yes : goal.returns-in-Yes
returns-in-Yes c = rw (c.in-Yes.is, yes-text) c.put_bytes.ensures

pub returns-in-No : goal.returns-in-No
returns-in-No c = rw (c.in-No.is, no_text) c.put_counted.ensures
