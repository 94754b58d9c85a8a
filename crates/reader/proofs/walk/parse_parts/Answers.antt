use Rattle.std.specs.Prelude.{Ok, Err, Some, None}
use Prim.Native.Nat.{◌≤◌}
use borrow.Author.Rules.{rules}
use lib.ListN.{length}
use mathlib.Core.List.{[], ◌∷◌}
use mathlib.Core.Bool.{false}
use mathlib.Core.Logic.{◌⊎◌, inl, inr}
use mathlib.Core.Path.{◌≡◌, refl, sym, ap, ◌∙◌}
use mir.Syntax.{w64}
use mir.ValLaws.{to_z-of_z}
use native.Mathlib.Omega.{arith}
use Rattle.meaning.specs.OpenedBooks.{book_in}
use Rattle.parse.proofs.literals.Strict.{same-either, value_same, ended}
use Rattle.pattern.proofs.parts.Next.{starts-here}
use Rattle.pattern.proofs.parts.Walks.{found_in}
use Rattle.rules.specs.Steps.{means}
use Rattle.reader.proofs.walk.Walks.{step-here, part-inside, walk-stops, walk-differs, walk-goes-on, walk-left, walk-done}
use Rattle.reader.proofs.record.Units.{holds-none, unit-below, holds-nothing, holds-value, holds-reading}
use Rattle.reader.proofs.walk.parse_parts.Goals as goal
use Rattle.reader.proofs.walk.parse_parts.Goals.{in-Some-value, in_default+then-choices+in_default-compare_part, in_default+else-choices, else-choices-2-via-then-choices-2+else-at-text, else-choices-2-via-else-choices-2}

pub loop-part-init : goal.loop-part-init
loop-part-init c =
    let starts = c.parts_of-part-items.ensures.starts in
    rw (c.into_iter-part-iterator.ensures.into_iter_gives, starts.1) ([], holds-none, refl, omega arith, omega arith, starts.0)

pub step_of-step-requires : goal.step_of-step-requires
step_of-step-requires c =
    let p = c.args.pattern.now in
    let L = c.loop-part in
    starts-here (found_in L.invariant.5 c.in-Some.ensures.steps.2.0)

pub parse_step-requires : goal.parse_step-requires
parse_step-requires c = record { held = c.step_of-step.ensures.held; at_in_bounds = c.loop-part.invariant.3 }

pub returns-in-Err : goal.returns-in-Err
returns-in-Err c =
    let m = c in
    let L = m.loop-part in
    let a = m.args in
    let n = found_in L.invariant.5 m.in-Some.ensures.steps.2.0 in
    let gave = sym c.parse_step.ensures ∙ c.in-Err.is in
    let stops = walk-stops a.choices (book_in a.book.now) a.current_year L.i a.text.now L.invariant.0 L.at L.part-iterator.place n m.step_of-step.ensures gave in
    rw (← rw stops at L.invariant.2) (ap Err c.in_part.ensures)

pub offset_bounds-values-k : goal.offset_bounds-values-k
offset_bounds-values-k c = omega (arith, c.unit_number-k.ensures, unit-below c.in-Some-value.carried.unit)

pub bounds-values-k : goal.bounds-values-k
bounds-values-k c = omega (arith, c.unit_number-k.ensures, unit-below c.in-Some-value.carried.unit)

pub overflow_cast-starts : goal.overflow_cast-starts
overflow_cast-starts c =
    let m = c in
    omega (arith, m.loop-part.invariant.3, m.requires)

pub offset_bounds-starts-k : goal.offset_bounds-starts-k
offset_bounds-starts-k c = omega (arith, c.unit_number-k.ensures, unit-below c.in-Some-value.carried.unit)

pub bounds-starts-k : goal.bounds-starts-k
bounds-starts-k c = omega (arith, c.unit_number-k.ensures, unit-below c.in-Some-value.carried.unit)

pub overflow_cast-ends : goal.overflow_cast-ends
overflow_cast-ends c =
    let m = c in
    let L = m.loop-part in
    let a = m.args in
    let gave = sym c.parse_step.ensures ∙ c.in-Ok.is in
    let inside = part-inside a.choices.edition (book_in a.book.now) a.text.now L.at a.current_year (means a.pattern.now m.step_of-step.result) gave L.invariant.3 in
    omega (arith, inside, m.requires)

pub offset_bounds-ends-k : goal.offset_bounds-ends-k
offset_bounds-ends-k c = omega (arith, c.unit_number-k.ensures, unit-below c.in-Some-value.carried.unit)

pub bounds-ends-k : goal.bounds-ends-k
bounds-ends-k c = omega (arith, c.unit_number-k.ensures, unit-below c.in-Some-value.carried.unit)

pub overflow_cast-mask : goal.overflow_cast-mask
overflow_cast-mask c = omega (arith, c.unit_number-k.ensures, unit-below c.in-Some-value.carried.unit)

pub overflow_shl-mask : goal.overflow_shl-mask
overflow_shl-mask c = omega (arith, c.unit_number-k.ensures, unit-below c.in-Some-value.carried.unit)

pub compare_part-requires : goal.compare_part-requires
compare_part-requires c =
    let m = c in
    let L = m.loop-part in
    let a = m.args in
    let p = a.pattern.now in
    let here = starts-here (found_in L.invariant.5 m.in-Some.ensures.steps.2.0) in
    let gave = sym c.parse_step.ensures ∙ c.in-Ok.is in
    let end = ended a.text.now L.at a.choices.edition (book_in a.book.now) a.current_year (means p m.step_of-step.result) gave L.invariant.3 in
    record {
      place_in_bounds = omega (arith, here.some, here.fits);
      ended = rw (step-here here m.step_of-step.ensures) end;
    }

pub returns-in-Some-compare_part : goal.returns-in-Some-compare_part
returns-in-Some-compare_part c =
    let m = c in
    let L = m.loop-part in
    let a = m.args in
    let p = a.pattern.now in
    let text = a.text.now in
    let n = found_in L.invariant.5 m.in-Some.ensures.steps.2.0 in
    let g = c in
    let gave = sym g.parse_step.ensures ∙ g.in-Ok.is in
    let seen = rw (step-here (starts-here n) m.step_of-step.ensures) at c.compare_part.ensures in
    let differs = sym seen ∙ c.in-Some-compare_part.is in
    let stops = walk-differs a.choices (book_in a.book.now) a.current_year L.i text L.invariant.0 L.at L.part-iterator.place n m.step_of-step.ensures gave g.if-choices.true differs in
    rw (← rw stops at L.invariant.2) refl

pub overflow_add-i : goal.overflow_add-i
overflow_add-i c =
    let L = c.loop-part in
    let n = found_in L.invariant.5 c.in-Some.ensures.steps.2.0 in
    omega (arith, n.some, n.fits, L.invariant.4, c.ranges)

pub loop-part-preserved : goal.loop-part-preserved
loop-part-preserved c =
    let m = c in
    let L = m.loop-part in
    let a = m.args in
    let p = a.pattern.now in
    let text = a.text.now in
    let n = found_in L.invariant.5 m.in-Some.ensures.steps.2.0 in
    let turn = m.in-Some.ensures.steps in
    let k = means p m.step_of-step.result in
    let gave = sym c.parse_step.ensures ∙ c.in-Ok.is in
    let moved = walk-goes-on a.choices (book_in a.book.now) a.current_year L.i text L.invariant.0 L.at L.part-iterator.place n m.step_of-step.ensures gave in
    let inside = part-inside a.choices.edition (book_in a.book.now) text L.at a.current_year k gave L.invariant.3 in
    let from = L.at in
    let to = c.in-Ok.read.next.at in
    elim c.match-read.branch [
      | in-Some-value w ↦
          let carried = w.in-Some-value.carried in
          let same = value_same text L.at a.choices.edition (book_in a.book.now) a.current_year k gave w.in-Some-value.is in (
            record { carried = Some carried; start = from; end = to } ∷ L.invariant.0,
            rw (w.values-is, w.starts-is, w.ends-is, w.mask-is, w.unit_number-k.ensures, to_z-of_z w64 carried.value (search rules)) (holds-value L.invariant.1 from to carried.unit carried.value),
            rw (w.in-Some-value.is, ← turn.2.1) at (sym (moved (rw same (same-either a.choices.strict))) ∙ L.invariant.2),
            inside,
            rw turn.2.1 (omega (arith, n.some)),
            turn.1 ∙ L.invariant.5,
          )
      | in_default+then-choices+in_default-compare_part w ↦
          let seen = rw (step-here (starts-here n) m.step_of-step.ensures) at w.compare_part.ensures in (
            record { carried = None; start = from; end = to } ∷ L.invariant.0,
            rw (w.values-is, w.starts-is, w.ends-is, w.mask-is) (holds-nothing L.invariant.1 from to),
            rw (w.in_default.is, ← turn.2.1) at (sym (moved (rw w.if-choices.true (sym seen ∙ w.in_default-compare_part.is))) ∙ L.invariant.2),
            inside,
            rw turn.2.1 (omega (arith, n.some)),
            turn.1 ∙ L.invariant.5,
          )
      | in_default+else-choices w ↦ (
        record { carried = None; start = from; end = to } ∷ L.invariant.0,
        rw (w.values-is, w.starts-is, w.ends-is, w.mask-is) (holds-nothing L.invariant.1 from to),
        rw (w.in_default.is, ← turn.2.1) at (sym (moved (rw w.if-choices.false)) ∙ L.invariant.2),
        inside,
        rw turn.2.1 (omega (arith, n.some)),
        turn.1 ∙ L.invariant.5,
      )
    ]

pub returns-then-at-text : goal.returns-then-at-text
returns-then-at-text c =
    let m = c in
    let a = m.args in
    let L = m.loop-part in
    let ends = walk-left a.choices (book_in a.book.now) a.current_year L.i a.text.now L.invariant.0 L.at L.part-iterator.place a.pattern.now (rw L.invariant.5 at m.in-None.ensures.steps.2) in
    rw (← rw (ends c.if-choices-2.true c.if-at-text.true) at L.invariant.2) refl

pub returns : goal.returns
returns c =
    let m = c in
    let a = m.args in
    let L = m.loop-part in
    let ends = walk-done a.choices (book_in a.book.now) a.current_year L.i a.text.now L.invariant.0 L.at L.part-iterator.place a.pattern.now (rw L.invariant.5 at m.in-None.ensures.steps.2) in
    let none_left : (a.choices.strict ≡ false) ⊎ (length a.text.now ≤ L.at) =
    elim c.else-choices-2.branch [
      | else-choices-2-via-then-choices-2+else-at-text w ↦ inr w.if-at-text.false
      | else-choices-2-via-else-choices-2 w ↦ inl w.if-choices-2.false
    ] in
    rw (← rw (ends none_left) at L.invariant.2) (ap Ok (holds-reading L.invariant.1 L.at))
