-- One computed test of the whole table, lifted to each entry; its formula is the days of the years before.
use mathlib.Core.Path.{◌∙◌}
use Prim.Native.Nat.{ℕ, ◌+◌, ◌-◌, ◌*◌, ◌/◌}
use native.Mathlib.Omega.{arith}
use Rattle.laws.proofs.CalendarCycles.{table_is}
use Rattle.laws.proofs.Tests.{tabulate, tabulated}
use Rattle.calendar.proofs.table.days_before.Goals as goal

pub returns : goal.returns
unfolding tabulate
returns c =
    let k = c.args.place in
    tabulated (λ (k : ℕ). 365 * k + k / 4 - k / 100) 400 k (omega arith) ∙ table_is k (omega arith)
