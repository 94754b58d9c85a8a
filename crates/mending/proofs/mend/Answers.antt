-- The checks, the length of the mended pattern, it, and the list of its changes.
use mathlib.Core.Path.{sym, ◌∙◌}
use mir.Syntax.{w32}
use mir.ValLaws.{to_z-of_z}
use native.Mathlib.Omega.{arith}
use Rattle.std.proofs.lemmas.Result.{err_from_is_err_and}
use Rattle.laws.proofs.Told.{by_whole}
use Rattle.trust.specs.Mending.{mended, changes}
use Rattle.mending.proofs.Answers.{checked-short, check-refused, too_long, no_room, with-room, mended-with}
use Rattle.mending.proofs.mend.Goals as goal

pub returns-in_err-trust_check : goal.returns-in_err-trust_check
returns-in_err-trust_check c =
    let a = c.args in
    let checked = rw (to_z-of_z w32 a.year c.ranges.year) at c.trust_check.ensures in
    let refused = err_from_is_err_and c.from_residual.result c.from_residual.ensures.1 in
    let m = check-refused a.edition a.pattern.now a.year a.out.now (sym checked ∙ c.in_err-trust_check.was) in
    rw (refused.1, refused.2) (by_whole (sym m.0), sym m.1)

pub mended_length-n-requires : goal.mended_length-n-requires
mended_length-n-requires c =
    let a = c.args in
    let fine = sym (rw (to_z-of_z w32 a.year c.ranges.year) at c.trust_check.ensures) ∙ c.in_ok-trust_check.was in
    checked-short a.edition a.pattern.now a.year fine

pub returns-then-n-gt256 : goal.returns-then-n-gt256
returns-then-n-gt256 c =
    let a = c.args in
    let fine = sym (rw (to_z-of_z w32 a.year c.ranges.year) at c.trust_check.ensures) ∙ c.in_ok-trust_check.was in
    let n = c.mended_length-n.ensures in
    let m = too_long a.edition a.pattern.now a.year a.out.now fine (omega (arith, n, c.if-n-gt256.true)) in
    (by_whole (sym m.0), sym m.1)

pub returns-then-out-n : goal.returns-then-out-n
returns-then-out-n c =
    let a = c.args in
    let fine = sym (rw (to_z-of_z w32 a.year c.ranges.year) at c.trust_check.ensures) ∙ c.in_ok-trust_check.was in
    let n = c.mended_length-n.ensures in
    let m = no_room a.edition a.pattern.now a.year a.out.now fine (omega (arith, n, c.if-n-gt256.false)) (omega (arith, n, c.if-out-n.true)) in
    (by_whole (rw n (sym m.0)), sym m.1)

pub put_mended-requires : goal.put_mended-requires
put_mended-requires c =
    let a = c.args in
    let fine = sym (rw (to_z-of_z w32 a.year c.ranges.year) at c.trust_check.ensures) ∙ c.in_ok-trust_check.was in
    record {
      pattern_len_bound = checked-short a.edition a.pattern.now a.year fine;
      pattern_in_bounds = omega (arith, c.mended_length-n.ensures, c.if-out-n.false);
    }

pub list_changes-requires : goal.list_changes-requires
list_changes-requires c =
    let a = c.args in
    let fine = sym (rw (to_z-of_z w32 a.year c.ranges.year) at c.trust_check.ensures) ∙ c.in_ok-trust_check.was in
    record {
      pattern_len_bound = checked-short a.edition a.pattern.now a.year fine;
      pattern_len_bound_2 = omega (arith, c.mended_length-n.ensures, c.if-n-gt256.false);
    }

pub returns : goal.returns
returns c =
    let a = c.args in
    let fine = sym (rw (to_z-of_z w32 a.year c.ranges.year) at c.trust_check.ensures) ∙ c.in_ok-trust_check.was in
    let n = c.mended_length-n.ensures in
    let laid = c.put_mended.ensures in
    let m = with-room a.edition a.pattern.now a.year a.out.now fine (omega (arith, n, c.if-n-gt256.false)) (omega (arith, n, c.if-out-n.false)) in
    (by_whole (rw (c.list_changes.ensures, laid.end) (mended-with (mended a.edition a.pattern.now) (changes a.edition a.pattern.now) ∙ sym m.0)), laid.held ∙ sym m.1)
