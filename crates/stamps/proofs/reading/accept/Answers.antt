use mathlib.Core.Path.{sym, ◌∙◌}
use Rattle.laws.proofs.StampChecks.{checks-fine}
use Rattle.stamps.specs.Found.{date_time_of}
use Rattle.stamps.proofs.reading.accept.Goals as goal

pub stamp_of-requires : goal.stamp_of-requires
stamp_of-requires c =
    (c.requires.0, (checks-fine (date_time_of c.args.t) (sym c.check.ensures ∙ c.in_ok-check.was)).range, c.requires.1)
