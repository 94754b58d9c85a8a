-- Twice four bytes.
use mathlib.Core.Path.{ap}
use native.Mathlib.Omega.{arith}
use lib.Seq.{take_all}
use Rattle.names.specs.Letters.{number_of}
use Rattle.names.proofs.letters.Laws.{number_at}
use Rattle.names.proofs.letters.eight.Goals as goal

pub returns : goal.returns
returns c =
    let b = c.args.b in
    omega (arith, number_at 0 b, ap number_of (take_all 8 b (omega arith)))
