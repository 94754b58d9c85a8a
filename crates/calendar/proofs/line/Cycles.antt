-- A year of the cycle, so many cycles on.
use mathlib.Core.Path.{◌≡◌, ap, ◌∙◌}
use Prim.Native.Nat.{ℕ, suc, ◌+◌, ◌*◌, ◌/◌, ◌%◌, ◌<◌}
use native.Mathlib.Omega.{arith}
use Rattle.laws.proofs.CalendarCycles.{cycles-on, leap-on}
use Rattle.laws.specs.CalendarLine.{InYear}
use Rattle.meaning.specs.Calendar.{leap}

module _ (n k past : ℕ) where
  pub same-leap : leap (suc (400 * (n / 146097) + k)) ≡ leap (suc k)
  same-leap =
      let e : suc (400 * (n / 146097) + k) ≡ 400 * (n / 146097) + suc k = omega arith in
      ap leap e ∙ leap-on (n / 146097) (suc k)

  pub cycle-on : n < 4295251800 → InYear 400 (n % 146097) k past → InYear 11760000 n (400 * (n / 146097) + k) past
  cycle-on h i =
      record {
        known = omega (arith, i.known);
        here = omega (arith, i.here, cycles-on (n / 146097) k);
        inside = rw same-leap i.inside;
      }
