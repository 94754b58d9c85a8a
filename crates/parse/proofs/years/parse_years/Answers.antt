-- The sign, and the digits that stand behind it.
use Prim.Native.Nat.{◌+◌}
use lib.ListN.{drop, length-drop}
use lib.Seq.{drop-drop}
use native.Mathlib.Omega.{arith}
use Rattle.parse.proofs.years.YearParts.{year-in-full}
use Rattle.parse.proofs.years.Runs.{minus-fits, run_fits}
use Rattle.parse.proofs.years.parse_years.Goals as goal

pub overflow_add-at : goal.overflow_add-at
overflow_add-at c =
    let a = c.args in
    let s = drop a.cursor.at a.text.now in
    omega (arith, c.minus_first-minus.ensures, (minus-fits s).1)

pub digit_run-digits-requires : goal.digit_run-digits-requires
digit_run-digits-requires c =
    let a = c.args in
    let s = drop a.cursor.at a.text.now in
    omega (arith, c.minus_first-minus.ensures, (minus-fits s).0, length-drop a.cursor.at a.text.now)

pub overflow_add-minus : goal.overflow_add-minus
overflow_add-minus c =
    let a = c.args in
    let s = drop a.cursor.at a.text.now in
    omega (
      arith,
      c.minus_first-minus.ensures,
      (minus-fits s).1,
      c.digit_run-digits.ensures,
      run_fits (drop (a.cursor.at + c.minus_first-minus.result) a.text.now),
      length-drop (a.cursor.at + c.minus_first-minus.result) a.text.now,
    )

pub returns : goal.returns
returns c =
    let a = c.args in
    let at = a.cursor.at in
    let text = a.text.now in
    let s = drop at text in
    let minus = c.minus_first-minus.result in
    let digits = c.digit_run-digits.result in
    rw (
      ← c.minus_first-minus.ensures,
      drop-drop minus at text,
      ← c.digit_run-digits.ensures,
      ← year-in-full (minus + digits) s,
    ) c.take_year.ensures
