-- A T and twice a colon, each with two digits.
use Prim.Native.Nat.{◌/◌, ◌%◌}
use native.Mathlib.Omega.{arith}
use Rattle.laws.proofs.Laid.{laid_then}
use Rattle.stamps.proofs.writing.Lengths.{two-long}
use Rattle.stamps.proofs.writing.put_time.Goals as goal

pub put_marked-behind_hour-requires : goal.put_marked-behind_hour-requires
put_marked-behind_hour-requires c =
    omega (arith, c.requires.1, two-long (c.args.second / 3600) (omega (arith, c.requires.0)))

pub put_marked-behind_minute-requires : goal.put_marked-behind_minute-requires
put_marked-behind_minute-requires c =
    let first = c.put_marked-behind_hour in
    let x = c.args.second in
    omega (arith, c.requires.1, first.ensures.end, first.auto.out, two-long (x / 3600) (omega (arith, c.requires.0)), two-long (x % 3600 / 60) (omega arith))

pub put_marked-requires : goal.put_marked-requires
put_marked-requires c =
    let second = c.put_marked-behind_minute in
    let first = c.put_marked-behind_hour in
    let x = c.args.second in
    omega (arith, c.requires.1, first.ensures.end, first.auto.out, second.ensures.end, second.auto.out, two-long (x / 3600) (omega (arith, c.requires.0)), two-long (x % 3600 / 60) (omega arith), two-long (x % 60) (omega arith))

pub returns : goal.returns
returns c = laid_then (laid_then c.put_marked-behind_hour.ensures c.put_marked-behind_minute.ensures) c.put_marked.ensures
