use mathlib.Core.Path.{sym, ◌∙◌}
use native.Mathlib.Omega.{arith}
use Rattle.laws.proofs.StampChecks.{in-range}
use Rattle.stamps.specs.Found.{date_time_of}
use Rattle.stamps.proofs.reading.check.Goals as goal

pub day_check-requires : goal.day_check-requires
day_check-requires c =
    let r = in-range (date_time_of c.args.t) (sym c.in_range.ensures ∙ c.if-not-in_range.false) in
    (omega (arith, c.if-t-eq0.false), omega (arith, c.requires), omega (arith, r.month), omega (arith, r.month), omega (arith, r.day))
