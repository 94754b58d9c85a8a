-- Before its year's end the guess stands.
use mathlib.Core.Path.{◌≡◌, refl, ap, ◌∙◌}
use Prim.Native.Nat.{suc, ◌+◌, ◌*◌, ◌/◌}
use native.Mathlib.Numerals.{add-one}
use native.Mathlib.Omega.{arith}
use Rattle.calendar.proofs.cycle.Years.{guess-early}
use Rattle.meaning.specs.Calendar.{leap}
use borrow.Author.Rules.{rules}
use Rattle.calendar.proofs.cycle.year_of.Goals as goal

pub returns-then-past-lt365 : goal.returns-then-past-lt365
returns-then-past-lt365 c =
    let day = c.args.day in
    let leap-is : c.is_leap-leap.result ≡ leap (suc ((4 * day + 3) / 1461)) = c.is_leap-leap.ensures ∙ ap leap (add-one ((4 * day + 3) / 1461)) in
    (guess-early day ((4 * day + 3) / 1461) (search rules) refl (omega (arith, c.if-past-lt365.true)), leap-is)
