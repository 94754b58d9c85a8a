-- By its count.
use borrow.Author.Tests.{le-leb, lt-leb}
use native.Mathlib.Omega.{arith}
use Rattle.parse.proofs.step.parse_year.Goals as goal

pub returns-then-count-le4 : goal.returns-then-count-le4
returns-then-count-le4 c =
    let count = c.args.count in
    rw (le-leb count 4 (omega (arith, c.if-count-le4.true))) c.parse_years.ensures

pub returns : goal.returns
returns c =
    let count = c.args.count in
    rw (lt-leb count 4 (omega (arith, c.if-count-le4.false))) c.parse_fixed_year.ensures
