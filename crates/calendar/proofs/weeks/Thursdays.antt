-- Where the Thursday of a week is, by the days of the year before it.
use mathlib.Core.Path.{◌≡◌, refl}
use Prim.Native.Nat.{ℕ, zero, suc, ◌+◌, ◌-◌, ◌*◌, ◌/◌, ◌≤◌, ◌<◌}
use native.Mathlib.Omega.{arith}
use Rattle.laws.proofs.CalendarCycles.{year-after}
use Rattle.laws.proofs.CalendarYears.{year-long}
use Rattle.laws.specs.CalendarLine.{WeekOn}
use Rattle.meaning.specs.Calendar.{leap, year_length, days_on}

-- in a year, sevenths are so many of 65536
pub sevenths : (n : ℕ) → n < 366 → n * 9363 / 65536 ≡ n / 7
sevenths n h = omega arith

module _ (p past since : ℕ) (known : p < 11759999) (soon : since < 7) where
  pub here : since ≤ past + 3 → past + 3 - since < year_length (leap (suc p)) → WeekOn (days_on p + (past + 3) - since) ((past + 3 - since) / 7 + 1)
  here h i =
      record {
        at = p;
        past = past + 3 - since;
        found = record { known = omega arith; here = omega arith; inside = i };
        count = refl;
      }

  pub next : past < year_length (leap (suc p)) → since ≤ past + 3 → year_length (leap (suc p)) ≤ past + 3 - since → WeekOn (days_on p + (past + 3) - since) 1
  next i h k =
      let l = year_length (leap (suc p)) in
      record {
        at = suc p;
        past = past + 3 - since - l;
        found =
            record {
              known = omega arith;
              here = omega (arith, year-after p);
              inside = omega (arith, year-long (leap (suc (suc p))));
            };
        count = omega arith;
      }

pub before : (p past since : ℕ) → 1 ≤ p → p < 11759999 → since < 7 → past + 3 < since → WeekOn (days_on p + (past + 3) - since) ((past + 3 + year_length (leap p) - since) / 7 + 1)
before zero past since some known soon h = absurd (omega arith)
before (suc p) past since some known soon h =
    let long = year-long (leap (suc p)) in
    record {
      at = p;
      past = past + 3 + year_length (leap (suc p)) - since;
      found = record { known = omega arith; here = omega (arith, year-after p); inside = omega arith };
      count = refl;
    }
