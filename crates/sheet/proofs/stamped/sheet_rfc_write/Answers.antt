-- The answer of the writer, where the number is a mark and there is room for it.
use borrow.Author.Tests.{le-leb, lt-leb}
use lib.ListN.{length}
use mathlib.Core.Path.{refl}
use mir.Syntax.{w32}
use mir.ValLaws.{to_z-of_z}
use native.Mathlib.Omega.{arith}
use Rattle.sheet.proofs.StampFits.{write-stamp-fits}
use borrow.Author.Rules.{rules}
use Rattle.sheet.proofs.stamped.sheet_rfc_write.Goals as goal

pub returns-then-unknown-gt1 : goal.returns-then-unknown-gt1
returns-then-unknown-gt1 c =
    let a = c.args in
    rw (lt-leb a.unknown 1 (omega arith)) (record { number = refl; row = refl }, refl)

pub returns-then-answer-lt2 : goal.returns-then-answer-lt2
returns-then-answer-lt2 c =
    let a = c.args in
    rw (le-leb a.unknown 1 (omega arith), lt-leb 2 (length a.answer.now) (omega arith)) (record { number = refl; row = refl }, refl)

pub give_counted-requires : goal.give_counted-requires
give_counted-requires c =
    let wrote = c.write_stamp.ensures in
    (search rules, rw wrote.0.whole (write-stamp-fits _ _))

pub returns : goal.returns
returns c =
    let m = c in
    let s = m in
    let a = s.args in
    let wrote = rw (to_z-of_z w32 a.year s.ranges.year, to_z-of_z w32 a.offset s.ranges.offset) at m.write_stamp.ensures in
    rw (le-leb a.unknown 1 (omega arith), le-leb 2 (length a.answer.now) (omega arith), ← wrote.0.whole) (c.give_counted.ensures, wrote.1)
