-- The bytes of the year, and its sign.
use Prim.Native.Nat.{◌+◌}
use lib.ListN.{drop, length-drop}
use native.Mathlib.Omega.{arith}
use Rattle.meaning.specs.Reading.{minus_first}
use Rattle.parse.proofs.years.YearParts.{year-few, year-in-full}
use Rattle.parse.proofs.years.Runs.{minus-fits}
use Rattle.parse.proofs.years.parse_fixed_year.Goals as goal

pub overflow_sub-text-2 : goal.overflow_sub-text-2
overflow_sub-text-2 c =
    let a = c.args in
    let at = a.cursor.at in
    let text = a.text.now in
    let s = drop at text in
    omega (arith, c.minus_first-minus.ensures, (minus-fits s).0, length-drop at text)

pub returns-then-text-at : goal.returns-then-text-at
returns-then-text-at c =
    let a = c.args in
    let at = a.cursor.at in
    let text = a.text.now in
    let s = drop at text in
    rw (year-few (minus_first s + a.count) at s (omega (arith, c.minus_first-minus.ensures, length-drop at text)))

pub overflow_add-minus : goal.overflow_add-minus
overflow_add-minus c =
    let a = c.args in
    let at = a.cursor.at in
    let text = a.text.now in
    let s = drop at text in
    omega (arith, c.minus_first-minus.ensures, (minus-fits s).0, length-drop at text)

pub returns : goal.returns
returns c =
    let a = c.args in
    let at = a.cursor.at in
    let text = a.text.now in
    let s = drop at text in
    rw (← c.minus_first-minus.ensures, ← year-in-full (c.minus_first-minus.result + a.count) s) c.take_year.ensures
