-- The numbers that patterns have most, by their symbols, and their rules at a count of one or two. That the table has these
-- rules is the law `short-role` of proofs/ShortRules.
use Rattle.std.specs.Prelude.{ℕ, eqb, Option, Some, None}
use Prim.Native.Char.{code}
use Rattle.meaning.specs.Bytes.{when}
use Rattle.meaning.specs.Rules.{number}
use Rattle.meaning.specs.declared.Pair.{Pair}
use Rattle.meaning.specs.declared.Pair.TheVariants.{Full, Date}
use Rattle.meaning.specs.declared.ParseUnit.{ParseUnit}
use Rattle.meaning.specs.declared.ParseUnit.TheVariants as unit
use Rattle.meaning.specs.declared.Quantity.{Quantity}
use Rattle.meaning.specs.declared.Quantity.TheVariants as quantity
use Rattle.meaning.specs.declared.Rule.{Rule}
use Rattle.rules.specs.declared.short.Short.{Short}
use Rattle.rules.specs.declared.short.Short.TheVariants.{Month, Day, Hour, Minute, Second}

abbrev pub short_time : ℕ → Option Short
short_time b = when (eqb b (code "H")) (Some Hour) (when (eqb b (code "m")) (Some Minute) (when (eqb b (code "s")) (Some Second) None))

abbrev pub short_of_pair : Pair → ℕ → Option Short
short_of_pair Full b = short_time b
short_of_pair Date b = None

unfoldable pub short_of : Pair → ℕ → Option Short
short_of pair b = when (eqb b (code "M")) (Some Month) (when (eqb b (code "d")) (Some Day) (short_of_pair pair b))

-- the number, the unit that it carries, and the most digits that it is read from
abbrev pub short_quantity : Short → Quantity
short_quantity Month = quantity.Month
short_quantity Day = quantity.Day
short_quantity Hour = quantity.Hour0To23
short_quantity Minute = quantity.Minute
short_quantity Second = quantity.Second

abbrev pub short_unit : Short → ParseUnit
short_unit Month = unit.Month
short_unit Day = unit.DayOfMonth
short_unit Hour = unit.Hour
short_unit Minute = unit.Minute
short_unit Second = unit.Second

abbrev pub short_most : Short → ℕ → ℕ
short_most Month c = c
short_most Day c = 2
short_most Hour c = 2
short_most Minute c = 2
short_most Second c = 2

abbrev pub short_rule : Short → ℕ → Rule
short_rule s c = number (short_quantity s) c (short_most s c) (short_unit s)
