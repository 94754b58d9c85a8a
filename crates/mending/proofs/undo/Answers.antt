-- Whether the changes fit, the length of what was, and it.
use Rattle.std.specs.Prelude.{Ok}
use mathlib.Core.Path.{sym, ap, ◌∙◌}
use native.Mathlib.Omega.{arith}
use Rattle.meaning.specs.Mending.{changes_in}
use Rattle.mending.proofs.Answers.{misfit, undo-no-room, undo-with-room}
use Rattle.mending.proofs.undo.Goals as goal

pub returns-then-not-all_fit : goal.returns-then-not-all_fit
returns-then-not-all_fit c =
    let a = c.args in
    let m = misfit a.pattern.now (changes_in a.changes) a.out.now (sym (rw c.listed-listed.ensures at c.all_fit.ensures) ∙ c.if-not-all_fit.true) in
    (sym m.0, sym m.1)

pub undone_length-length-requires : goal.undone_length-length-requires
undone_length-length-requires c = sym c.all_fit.ensures ∙ c.if-not-all_fit.false

pub returns-then-out-length : goal.returns-then-out-length
returns-then-out-length c =
    let a = c.args in
    let fine = sym (rw c.listed-listed.ensures at c.all_fit.ensures) ∙ c.if-not-all_fit.false in
    let n = rw c.listed-listed.ensures at c.undone_length-length.ensures in
    let m = undo-no-room a.pattern.now (changes_in a.changes) a.out.now fine (omega (arith, n, c.if-out-length.true)) in
    rw n (sym m.0, sym m.1)

pub put_undone-requires : goal.put_undone-requires
put_undone-requires c =
    record {
      changes_value = sym c.all_fit.ensures ∙ c.if-not-all_fit.false;
      changes_in_bounds = omega (arith, c.undone_length-length.ensures, c.if-out-length.false);
    }

pub returns : goal.returns
returns c =
    let a = c.args in
    let fine = sym (rw c.listed-listed.ensures at c.all_fit.ensures) ∙ c.if-not-all_fit.false in
    let laid = rw c.listed-listed.ensures at c.put_undone.ensures in
    let m = undo-with-room a.pattern.now (changes_in a.changes) a.out.now fine (omega (arith, rw c.listed-listed.ensures at c.undone_length-length.ensures, c.if-out-length.false)) in
    (ap Ok (laid.end ∙ omega arith) ∙ sym m.0, laid.held ∙ sym m.1)
