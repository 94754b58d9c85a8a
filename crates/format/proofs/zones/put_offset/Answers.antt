-- Three writers, one after the other.
use lib.ListN.{length-append}
use native.Mathlib.Omega.{arith}
use Rattle.laws.proofs.Laid.{laid_then}
use Rattle.meaning.specs.Writing.{offset_digits}
use Rattle.format.proofs.zones.put_offset.Goals as goal

pub zero_padded-a-requires : goal.zero_padded-a-requires
unfolding offset_digits
zero_padded-a-requires c = omega (arith, simp length-append at c.requires)

pub put_group-b-requires : goal.put_group-b-requires
unfolding offset_digits
put_group-b-requires c =
    omega (arith, simp length-append at c.requires, c.zero_padded-a.ensures.end, c.zero_padded-a.auto.out)

pub put_group-requires : goal.put_group-requires
unfolding offset_digits
put_group-requires c =
    omega (
      arith,
      simp length-append at c.requires,
      c.zero_padded-a.ensures.end,
      c.zero_padded-a.auto.out,
      c.put_group-b.ensures.end,
      c.put_group-b.auto.out,
    )

pub returns : goal.returns
unfolding offset_digits
returns c =
    laid_then (laid_then c.zero_padded-a.ensures c.put_group-b.ensures)
    c.put_group.ensures
