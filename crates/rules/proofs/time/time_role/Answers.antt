-- The time symbols: each arm is its symbol's rule.
use mathlib.Core.Path.{ap}
use borrow.Author.Tests.{ne_eqb}
use native.Mathlib.Omega.{arith}
use Rattle.meaning.specs.Rules.{number, role_among, time_role}
use Rattle.meaning.specs.declared.ParseUnit.TheVariants as unit
use Rattle.meaning.specs.declared.Quantity.TheVariants as quantity
use Rattle.meaning.specs.declared.Role.TheVariants.{Symbol}
use Rattle.meaning.specs.declared.Rule.TheVariants.{Number}
use Rattle.rules.proofs.numbers.Laws.{one-or-two-rule}
use Rattle.rules.proofs.time.time_role.Goals as goal

pub returns-in_default : goal.returns-in_default
unfolding time_role role_among
returns-in_default c =
    simp (
      ne_eqb c.args.symbol 97 (omega arith),
      ne_eqb c.args.symbol 98 (omega arith),
      ne_eqb c.args.symbol 104 (omega arith),
      ne_eqb c.args.symbol 72 (omega arith),
      ne_eqb c.args.symbol 75 (omega arith),
      ne_eqb c.args.symbol 107 (omega arith),
      ne_eqb c.args.symbol 109 (omega arith),
      ne_eqb c.args.symbol 115 (omega arith),
      ne_eqb c.args.symbol 110 (omega arith),
      ne_eqb c.args.symbol 88 (omega arith),
      ne_eqb c.args.symbol 120 (omega arith),
    )

pub returns-in-97 : goal.returns-in-97
unfolding time_role role_among
returns-in-97 c = rw (c.in-97.is, c.period-rule.ensures)

pub returns-in-98 : goal.returns-in-98
unfolding time_role role_among
returns-in-98 c = rw (c.in-98.is, c.noon-rule.ensures)

pub returns-in-104 : goal.returns-in-104
unfolding time_role role_among
returns-in-104 c =
    rw (c.in-104.is, c.one_or_two-k.ensures)
    (ap Symbol (one-or-two-rule 104 (λ k. Number quantity.Hour1To12 k 2 unit.PeriodHour 12) c.args.count))

pub returns-in-72 : goal.returns-in-72
unfolding time_role role_among
returns-in-72 c =
    rw (c.in-72.is, c.number-rule.ensures, c.one_or_two-k.ensures)
    (ap Symbol (one-or-two-rule 72 (λ k. number quantity.Hour0To23 k 2 unit.Hour) c.args.count))

pub returns-in-75 : goal.returns-in-75
unfolding time_role role_among
returns-in-75 c =
    rw (c.in-75.is, c.number-rule-in-75.ensures, c.one_or_two-k.ensures)
    (ap Symbol (one-or-two-rule 75 (λ k. number quantity.Hour0To11 k 2 unit.PeriodHour) c.args.count))

pub returns-in-107 : goal.returns-in-107
unfolding time_role role_among
returns-in-107 c =
    rw (c.in-107.is, c.one_or_two-k.ensures)
    (ap Symbol (one-or-two-rule 107 (λ k. Number quantity.Hour1To24 k 2 unit.Hour 24) c.args.count))

pub returns-in-109 : goal.returns-in-109
unfolding time_role role_among
returns-in-109 c =
    rw (c.in-109.is, c.number-rule-in-109.ensures, c.one_or_two-k.ensures)
    (ap Symbol (one-or-two-rule 109 (λ k. number quantity.Minute k 2 unit.Minute) c.args.count))

pub returns-in-115 : goal.returns-in-115
unfolding time_role role_among
returns-in-115 c =
    rw (c.in-115.is, c.number-rule-in-115.ensures, c.one_or_two-k.ensures)
    (ap Symbol (one-or-two-rule 115 (λ k. number quantity.Second k 2 unit.Second) c.args.count))

pub returns-in-110 : goal.returns-in-110
unfolding time_role role_among
returns-in-110 c = rw (c.in-110.is, c.nanos-rule.ensures)

pub returns-in-88 : goal.returns-in-88
unfolding time_role role_among
returns-in-88 c = rw (c.in-88.is, c.zone-rule.ensures)

pub returns-in-120 : goal.returns-in-120
unfolding time_role role_among
returns-in-120 c = rw (c.in-120.is, c.zone-rule-in-120.ensures)
