use mathlib.Core.Logic.{inl}
use mathlib.Core.Path.{ap}
use native.Mathlib.Omega.{arith}
use lib.ListN.{length}
use Rattle.pattern.proofs.parts.Inside.{unescaped-fits}
use Rattle.pattern.proofs.quoted.unescaped_length.Goals as goal

pub count-requires-clause-fits : goal.count-requires-clause-fits
count-requires-clause-fits c =
    inl (omega (arith, ap length c.unescaped_bytes.ensures, unescaped-fits c.args.src.now))
