-- The year of the guess, or the one after.
use mathlib.Core.Path.{◌≡◌, sym, ap, ◌∙◌}
use Prim.Native.Nat.{suc, ◌+◌}
use native.Mathlib.Numerals.{add-one}
use native.Mathlib.Omega.{arith}
use Rattle.calendar.proofs.cycle.Years.{guess-begun, guess-stands, year-next}
use Rattle.meaning.specs.Calendar.{leap, year_length}
use Rattle.calendar.proofs.cycle.year_by_table.Goals as goal

pub overflow_sub-past : goal.overflow_sub-past
overflow_sub-past c =
    let a = c.args in
    rw c.days_before.ensures (guess-begun a.day a.place c.requires.0 (sym c.requires.1))

pub returns-then-past-length : goal.returns-then-past-length
returns-then-past-length c =
    let a = c.args in
    let length-is : c.year_length-length.result ≡ year_length (leap (suc a.place)) = c.year_length-length.ensures ∙ ap year_length c.requires.2 in (
      rw c.days_before.ensures
          (guess-stands a.day a.place c.requires.0 (sym c.requires.1)
          (rw (c.days_before.ensures, length-is) at c.if-past-length.true)),
      c.requires.2,
    )

pub returns : goal.returns
returns c =
    let a = c.args in
    let g = a.place in
    let n : g + 2 ≡ suc (suc g) = omega arith in
    let length-is : c.year_length-length.result ≡ year_length (leap (suc g)) = c.year_length-length.ensures ∙ ap year_length c.requires.2 in
    rw (add-one g, c.days_before.ensures, length-is) (
      year-next a.day g c.requires.0 (sym c.requires.1) (rw (c.days_before.ensures, length-is) at c.if-past-length.false),
      c.is_leap.ensures ∙ ap leap n,
    )
