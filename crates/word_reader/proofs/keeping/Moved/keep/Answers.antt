-- The three entries of the unit.
use borrow.Author.Rules.{rules}
use mathlib.Core.Path.{refl}
use mir.Facts.{to_z_pos}
use mir.Syntax.{w64}
use mir.ValLaws.{to_z-of_z}
use native.Mathlib.Omega.{arith}
use lib.ListN.{length-set}
use Rattle.reader.proofs.record.Units.{unit-below}
use Rattle.word_reader.proofs.keeping.Moving.{kept-value, kept-beyond}
use Rattle.word_reader.proofs.keeping.Moved.keep.Goals as goal

pub overflow_add-u : goal.overflow_add-u
overflow_add-u c = omega (arith, c.unit_number-u.ensures, unit-below c.args.carried.unit, c.requires.0)

pub offset_bounds-answer-u : goal.offset_bounds-answer-u
offset_bounds-answer-u c = omega (arith, c.unit_number-u.ensures, unit-below c.args.carried.unit, c.requires.0)

pub bounds-answer-u : goal.bounds-answer-u
bounds-answer-u c = omega (arith, c.unit_number-u.ensures, unit-below c.args.carried.unit, c.requires.0)

pub overflow_add-answer : goal.overflow_add-answer
overflow_add-answer c = omega (arith, c.unit_number-u.ensures, unit-below c.args.carried.unit, c.requires.0)

pub offset_bounds-answer-u-2 : goal.offset_bounds-answer-u-2
offset_bounds-answer-u-2 c = omega (arith, c.unit_number-u.ensures, unit-below c.args.carried.unit, c.requires.0)

pub bounds-answer-u-2 : goal.bounds-answer-u-2
bounds-answer-u-2 c = simp length-set (omega (arith, c.unit_number-u.ensures, unit-below c.args.carried.unit, c.requires.0))

pub overflow_add-u-2 : goal.overflow_add-u-2
overflow_add-u-2 c = omega (arith, c.unit_number-u.ensures, unit-below c.args.carried.unit, c.requires.0)

pub offset_bounds-answer-u-3 : goal.offset_bounds-answer-u-3
offset_bounds-answer-u-3 c = omega (arith, c.unit_number-u.ensures, unit-below c.args.carried.unit, c.requires.0)

pub bounds-answer-u-3 : goal.bounds-answer-u-3
bounds-answer-u-3 c = simp length-set (omega (arith, c.unit_number-u.ensures, unit-below c.args.carried.unit, c.requires.0))

pub overflow_cast-result : goal.overflow_cast-result
overflow_cast-result c = omega (arith, c.unit_number-u.ensures, unit-below c.args.carried.unit, c.requires.0)

pub overflow_shl-result : goal.overflow_shl-result
overflow_shl-result c = omega (arith, c.unit_number-u.ensures, unit-below c.args.carried.unit, c.requires.0)

pub returns : goal.returns
returns c =
    let a = c.args in
    let at = a.self.next in
    rw (c.unit_number-u.ensures, to_z-of_z w64 a.carried.value (search rules), to_z_pos w64 {n = at} (omega (arith, c.requires.1)), to_z_pos w64 {n = a.end} (omega (arith, c.requires.2)))
    (refl, kept-value a.carried.unit a.carried.value at a.end, kept-beyond a.answer.now a.carried.unit a.carried.value at a.end)
