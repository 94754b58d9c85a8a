-- The checks, then the first byte, the length and the two numbers.
use mathlib.Core.Bool.{false}
use borrow.Author.Tests.{eq-eqb, ne_eqb}
use mathlib.Core.Path.{◌≡◌, sym, ◌∙◌}
use Prim.Native.Char.{code}
use lib.Dec.{eqb}
use lib.ListN.{get_or}
use Rattle.std.proofs.lemmas.Result.{err_from_is_err_and}
use Rattle.laws.proofs.Told.{by_whole}
use Rattle.reader.proofs.offset.Offsets.{refused-offset, no-first, z-offset, other_length, six-offset}
use Rattle.reader.proofs.offset.parse_offset.Goals as goal
use Rattle.reader.proofs.offset.parse_offset.Goals.{else-n-gt0-via-then-n-gt0+else-text-eq90, else-n-gt0-via-else-n-gt0}

pub returns-in_err-text_check : goal.returns-in_err-text_check
returns-in_err-text_check c =
    let refused = err_from_is_err_and c.from_residual.result c.from_residual.ensures.1 in
    rw (refused.1, refused.2) (by_whole (sym (refused-offset c.args.text.now _ (sym c.text_check.ensures ∙ c.in_err-text_check.was))))

pub returns-then-text-eq90 : goal.returns-then-text-eq90
returns-then-text-eq90 c =
    let told = c in
    let s = told.args.text.now in
    let fine = sym told.text_check.ensures ∙ told.in_ok-text_check.was in
    by_whole (sym (z-offset s fine (eq-eqb _ 90 c.if-text-eq90.true)))

pub returns-then-n-ne6 : goal.returns-then-n-ne6
returns-then-n-ne6 c =
    let told = c in
    let s = told.args.text.now in
    let fine = sym told.text_check.ensures ∙ told.in_ok-text_check.was in
    let other : eqb (get_or s 0 0) (code "Z") ≡ false =
    elim c.else-n-gt0.branch [
      | else-n-gt0-via-then-n-gt0+else-text-eq90 w ↦ ne_eqb _ 90 w.if-text-eq90.false
      | else-n-gt0-via-else-n-gt0 w ↦ no-first s w.if-n-gt0.false
    ] in
    by_whole (sym (other_length s fine other c.if-n-ne6.true))

pub returns : goal.returns
returns c =
    let told = c in
    let s = told.args.text.now in
    let fine = sym told.text_check.ensures ∙ told.in_ok-text_check.was in
    let other : eqb (get_or s 0 0) (code "Z") ≡ false =
    elim c.else-n-gt0.branch [
      | else-n-gt0-via-then-n-gt0+else-text-eq90 w ↦ ne_eqb _ 90 w.if-text-eq90.false
      | else-n-gt0-via-else-n-gt0 w ↦ no-first s w.if-n-gt0.false
    ] in
    by_whole (c.hour_and_minute.ensures ∙ sym (six-offset s fine other c.if-n-ne6.false))
