-- The word and the digits, one behind the other.
use Rattle.laws.proofs.Laid.{laid_then}
use Rattle.pattern_check.proofs.line.put_counted.Goals as goal
use lib.ListN.{length-append}
use native.Mathlib.Omega.{arith}

pub put_bytes-next-requires : goal.put_bytes-next-requires
put_bytes-next-requires c = omega (arith, rw length-append at c.requires)

pub zero_padded-requires : goal.zero_padded-requires
zero_padded-requires c =
    let word = c.put_bytes-next in
    omega (arith, rw length-append at c.requires, word.ensures.end, word.auto.out)

pub returns : goal.returns
returns c = laid_then c.put_bytes-next.ensures c.zero_padded.ensures
