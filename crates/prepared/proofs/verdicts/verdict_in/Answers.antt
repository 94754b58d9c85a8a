-- The number that the row holds for the edition, and what it stands for.
use mathlib.Core.Path.{◌∙◌, ap}
use Rattle.prepared.specs.Verdicts.{unmet_held, unmet_in}
use Rattle.prepared.proofs.verdicts.verdict_in.Goals as goal

pub returns : goal.returns
unfolding unmet_held
returns c = c.unmet_in.ensures ∙ ap unmet_in c.answer_number.ensures
