-- The year of a day of the cycle is the guess, or the one after.
use mathlib.Core.Path.{◌≡◌, ap}
use Prim.Native.Nat.{ℕ, suc, ◌+◌, ◌-◌, ◌*◌, ◌/◌, ◌%◌, ◌≤◌, ◌<◌}
use native.Mathlib.Omega.{arith}
use borrow.Author.Tests.{ltb-true, ltb-false}
use lib.Dec.{ltb}
use Rattle.laws.proofs.CalendarCycles.{cycles-on, year-after}
use Rattle.laws.proofs.CalendarYears.{year-long, days-on}
use Rattle.laws.proofs.Tests.{by-test}
use Rattle.laws.specs.CalendarLine.{InYear}
use Rattle.meaning.specs.Calendar.{leap, year_length, days_on}

whole-cycle : days_on 400 ≡ 146097
unfolding days_on
whole-cycle = cycles-on 1 0

begun-by : (day g : ℕ) → g < 400 → 1461 * g ≤ 4 * day + 3 → days_on g ≤ day
begun-by day g h low = omega (arith, days-on g)

soon-by : (day g : ℕ) → g < 400 → 4 * day + 3 < 1461 * g + 1461 → day < days_on g + 369
soon-by day g h high = omega (arith, days-on g)

days-short : (g : ℕ) → g < 400 → days_on g + g / 100 ≡ 365 * g + g / 4
days-short g h = omega (arith, days-on g)

-- with the quotients as plain numbers, which `omega` would take apart
by-quarters : (day g q r x y : ℕ) → g ≡ 4 * q + r → r < 4 → 4 * day + 3 ≡ 1461 * g + (4 * x + y) → y < 4 → x + 365 * g + q ≡ day
by-quarters day g q r x y e h f k = omega arith

past_by : (day g q h x d : ℕ) → x + 365 * g + q ≡ day → d + h ≡ 365 * g + q → x + h ≡ day - d
past_by day g q h x d e f = omega arith

-- a year that begins by a day of the cycle is one of the cycle's
in-cycle : (day k : ℕ) → day < 146097 → days_on k ≤ day → k ≤ 400 → k < 400
in-cycle day k h le top =
    by-test (ltb k 400) (λ e. ltb-true k 400 e)
    (λ e. let d : k ≡ 400 = omega (arith, ltb-false k 400 e) in absurd (omega (arith, whole-cycle, ap days_on d)))

module _ (day g : ℕ) (h : day < 146097) (e : (4 * day + 3) / 1461 ≡ g) where
  pub guess-known : g < 400
  guess-known = omega arith

  pub guess-begun : days_on g ≤ day
  guess-begun = begun-by day g guess-known (omega arith)

  -- the guess counts 1461 days to four years also where a century ends, a day too many each time
  past_is : (4 * day + 3) % 1461 / 4 + g / 100 ≡ day - days_on g
  past_is =
      let x = (4 * day + 3) % 1461 in
      past_by day g (g / 4) (g / 100) (x / 4) (days_on g)
      (by-quarters day g (g / 4) (g % 4) (x / 4) (x % 4) (omega arith) (omega arith) (omega arith) (omega arith)) (days-short g guess-known)

  pub guess-stands : day - days_on g < year_length (leap (suc g)) → InYear 400 day g (day - days_on g)
  guess-stands i = let b = guess-begun in record { known = guess-known; here = omega arith; inside = i }

  pub guess-early : (4 * day + 3) % 1461 / 4 + g / 100 < 365 → InYear 400 day g ((4 * day + 3) % 1461 / 4 + g / 100)
  guess-early i =
      let l = year-long (leap (suc g)) in
      rw past_is (guess-stands (omega (arith, rw past_is at i)))

  pub year-next : year_length (leap (suc g)) ≤ day - days_on g → InYear 400 day (suc g) (day - days_on g - year_length (leap (suc g)))
  year-next i =
      let b = guess-begun in
      let k = guess-known in
      let a = year-after g in
      let s = soon-by day g k (omega arith) in
      let l = year-long (leap (suc g)) in
      record {
        known = in-cycle day (suc g) h (omega arith) (omega arith);
        here = omega arith;
        inside = omega (arith, year-long (leap (suc (suc g))));
      }
