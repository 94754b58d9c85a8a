-- The answer of the writer, where there is room for it.
use borrow.Author.Tests.{le-leb, lt-leb}
use lib.ListN.{length}
use mathlib.Core.Path.{refl}
use native.Mathlib.Omega.{arith}
use Rattle.sheet.proofs.Fits.{write-fits}
use borrow.Author.Rules.{rules}
use Rattle.sheet.proofs.write.Goals as goal

pub returns-then-row-lt2 : goal.returns-then-row-lt2
returns-then-row-lt2 c =
    let a = c.args in
    rw (lt-leb 2 (length a.row.now) (omega arith)) (record { number = refl; row = refl }, refl)

pub give_counted-requires : goal.give_counted-requires
give_counted-requires c =
    let s = c in
    let a = s.args in
    let wrote = c.format_with.ensures in
    (search rules, rw wrote.0.whole (write-fits a.pair a.book.now a.pattern.now a.f a.out.now (omega arith) (omega arith)))

pub returns : goal.returns
returns c =
    let s = c in
    let wrote = c.format_with.ensures in
    rw (le-leb 2 (length s.args.row.now) (omega (arith, c.if-row-lt2.false)), ← wrote.0.whole) (c.give_counted.ensures, wrote.1)
