-- The date symbols: each arm is its symbol's rule.
use mathlib.Core.Path.{ap}
use borrow.Author.Tests.{ne_eqb}
use native.Mathlib.Omega.{arith}
use Rattle.meaning.specs.Rules.{number, role_among, date_role}
use Rattle.meaning.specs.declared.ParseUnit.TheVariants as unit
use Rattle.meaning.specs.declared.Quantity.TheVariants as quantity
use Rattle.meaning.specs.declared.Role.TheVariants.{Symbol}
use Rattle.meaning.specs.declared.Rule.TheVariants.{SkippedNumber}
use Rattle.rules.proofs.numbers.Laws.{one-or-two-rule}
use Rattle.rules.proofs.date.date_role.Goals as goal

pub returns-in_default : goal.returns-in_default
unfolding date_role role_among
returns-in_default c =
    simp (
      ne_eqb c.args.symbol 71 (omega arith),
      ne_eqb c.args.symbol 121 (omega arith),
      ne_eqb c.args.symbol 113 (omega arith),
      ne_eqb c.args.symbol 77 (omega arith),
      ne_eqb c.args.symbol 119 (omega arith),
      ne_eqb c.args.symbol 100 (omega arith),
      ne_eqb c.args.symbol 68 (omega arith),
      ne_eqb c.args.symbol 101 (omega arith),
    )

pub returns-in-71 : goal.returns-in-71
unfolding date_role role_among
returns-in-71 c = rw (c.in-71.is, c.era-rule.ensures)

pub returns-in-121 : goal.returns-in-121
unfolding date_role role_among
returns-in-121 c = rw (c.in-121.is, c.year-rule.ensures)

pub returns-in-113 : goal.returns-in-113
unfolding date_role role_among
returns-in-113 c = rw (c.in-113.is, c.quarter-rule.ensures)

pub returns-in-77 : goal.returns-in-77
unfolding date_role role_among
returns-in-77 c = rw (c.in-77.is, c.month-rule.ensures)

pub returns-in-119 : goal.returns-in-119
unfolding date_role role_among
returns-in-119 c =
    rw (c.in-119.is, c.skipped-rule.ensures, c.one_or_two-k.ensures)
    (ap Symbol (one-or-two-rule 119 (λ k. SkippedNumber quantity.Week k 2) c.args.count))

pub returns-in-100 : goal.returns-in-100
unfolding date_role role_among
returns-in-100 c =
    rw (c.in-100.is, c.number-rule.ensures, c.one_or_two-k.ensures)
    (ap Symbol (one-or-two-rule 100 (λ k. number quantity.Day k 2 unit.DayOfMonth) c.args.count))

pub returns-in-68 : goal.returns-in-68
unfolding date_role role_among
returns-in-68 c = rw (c.in-68.is, c.day_of_year-rule.ensures)

pub returns-in-101 : goal.returns-in-101
unfolding date_role role_among
returns-in-101 c = rw (c.in-101.is, c.weekday-rule.ensures)
