-- The number with its sign, so many years on; or its last two digits, in the hundred years from one.
use borrow.Author.Rules.{rules}
use mir.Syntax.{w64}
use mir.ValLaws.{to_z-of_z}
use native.Mathlib.Omega.{arith}
use Rattle.numerals.proofs.Integers.{widened}
use Rattle.laws.proofs.Numbers.{size-alone}
use Rattle.parse.proofs.years.YearParts.{sum_fits}
use Rattle.parse.proofs.years.counted.Goals as goal

pub overflow_add-result : goal.overflow_add-result
overflow_add-result c =
    let a = c.args in
    rw (to_z-of_z w64 c.integer_of.result (search rules), c.integer_of.ensures, widened a.since (omega arith))
    (sum_fits a.negative a.size a.since (omega arith) (omega arith))

pub returns-in-First : goal.returns-in-First
returns-in-First c =
    let a = c.args in
    rw (
      c.in-First.is,
      to_z-of_z w64 c.integer_of.result (search rules),
      c.integer_of.ensures,
      widened a.since (omega arith),
      to_z-of_z w64 _ (sum_fits a.negative a.size a.since (omega arith) (omega arith)),
    )

pub returns-in-Second : goal.returns-in-Second
returns-in-Second c =
    let a = c.args in
    rw (c.in-Second.is, size-alone a.negative a.size) (widened _ (omega arith))
