-- Four digits, and twice a dash with two.
use native.Mathlib.Omega.{arith}
use Rattle.laws.proofs.Digits.{num-fits}
use Rattle.laws.proofs.Laid.{laid_then}
use Rattle.stamps.proofs.writing.Lengths.{two-long}
use Rattle.stamps.proofs.writing.put_date.Goals as goal

pub zero_padded-behind_year-requires : goal.zero_padded-behind_year-requires
zero_padded-behind_year-requires c = omega (arith, c.requires.3, num-fits 4 c.args.year (omega arith) c.requires.0)

pub put_marked-behind_month-requires : goal.put_marked-behind_month-requires
put_marked-behind_month-requires c =
    let first = c.zero_padded-behind_year in
    omega (arith, c.requires.3, first.ensures.end, first.auto.out, num-fits 4 c.args.year (omega arith) c.requires.0, two-long c.args.month c.requires.1)

pub put_marked-requires : goal.put_marked-requires
put_marked-requires c =
    let second = c.put_marked-behind_month in
    let first = c.zero_padded-behind_year in
    omega (arith, c.requires.3, first.ensures.end, first.auto.out, second.ensures.end, second.auto.out, num-fits 4 c.args.year (omega arith) c.requires.0, two-long c.args.month c.requires.1, two-long c.args.day c.requires.2)

pub returns : goal.returns
returns c = laid_then (laid_then c.zero_padded-behind_year.ensures c.put_marked-behind_month.ensures) c.put_marked.ensures
