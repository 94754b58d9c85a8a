-- The checks, and else the first part that fails: the answer that the law is about.
use Prim.Native.Nat.{◌-◌}
use lib.ListN.{length}
use mathlib.Core.Path.{◌≡◌, ap, ◌∙◌}
use mir.Syntax.{w32}
use mir.ValLaws.{to_z-of_z}
use native.Mathlib.Omega.{arith}
use Rattle.std.proofs.lemmas.Result.{err_from_is_err_and}
use Rattle.meaning.specs.Trust.{trust_check}
use Rattle.meaning.specs.Writing.{steps}
use Rattle.meaning.specs.declared.Pair.TheVariants.{Full}
use Rattle.trust.proofs.Turns.{shown-failing}
use Rattle.trust.proofs.Verdicts.{verdict-says}
use Rattle.trust.specs.Check.{first_failing, shown, verdict_of}
use Rattle.verdict.proofs.verdict_on.Goals as goal

pub returns-in_err-trust_check : goal.returns-in_err-trust_check
unfolding verdict_of
returns-in_err-trust_check c =
    let a = c.args in
    let p = a.pattern.now in
    let same-year = to_z-of_z w32 a.year c.ranges.year in
    let ensured = c.trust_check.ensures in
    let checked : c.trust_check.result ≡ trust_check a.edition p a.year = cc in
    let refused = err_from_is_err_and c.from_residual.result c.from_residual.ensures.1 in
    rw (refused.1, refused.2) (rw (← checked, c.in_err-trust_check.was) at (verdict-says a.edition p a.year))

pub returns : goal.returns
unfolding verdict_of
returns c =
    let a = c.args in
    let p = a.pattern.now in
    let same-year = to_z-of_z w32 a.year c.ranges.year in
    let ensured = c.trust_check.ensures in
    let checked : c.trust_check.result ≡ trust_check a.edition p a.year = cc in
    let whole : length p - 0 ≡ length p = omega arith in
    let unmet = rw whole at c.first_unmet.ensures in
    let found : c.shown.result ≡ first_failing a.edition 0 (steps Full p) =
    c.shown.ensures ∙ ap shown unmet ∙ shown-failing a.edition p in
    rw found
    (rw (← checked, c.in_ok-trust_check.was) at (verdict-says a.edition p a.year))
