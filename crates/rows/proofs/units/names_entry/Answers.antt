-- What the first name carries.
use native.Mathlib.Omega.{arith}
use Rattle.laws.proofs.Places.{place-there}
use Rattle.trust.proofs.RulesAhead.{long-numbers-allowed}
use Rattle.trust.specs.Check.{long_numbers}
use Rattle.rows.proofs.units.names_entry.Goals as goal

pub name_carries-requires : goal.name_carries-requires
name_carries-requires c = omega (arith, place-there c.args.names long_numbers long-numbers-allowed)
