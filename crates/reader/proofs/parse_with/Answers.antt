-- What the checks of the pattern and the year refuse, no text can mend.
use borrow.Author.Rules.{rules}
use mathlib.Core.Path.{refl}
use mir.Syntax.{w32}
use mir.ValLaws.{to_z-of_z}
use Rattle.std.proofs.lemmas.Result.{err_from_is_err_and}
use Rattle.laws.proofs.Checks.{read-checks}
use Rattle.laws.proofs.Told.{by_whole}
use Rattle.meaning.specs.Whole.{read}
use Rattle.reader.proofs.parse_with.Goals as goal

pub returns-in_err-trust_check : goal.returns-in_err-trust_check
unfolding read
returns-in_err-trust_check c =
    let a = c.args in
    let refused = err_from_is_err_and c.from_residual.result c.from_residual.ensures.1 in
    let checked = rw (to_z-of_z w32 a.year (search rules)) at c.trust_check.ensures in
    by_whole (rw (refused.1, refused.2, read-checks a.choices.edition a.pattern.now a.text.now a.year, ← checked, c.in_err-trust_check.was) refl)
