-- Demand 3: the records that a no shows are real days, each with its number, by the calendar; and their numbers differ from each other,
-- so that none can stand in the place of another unseen.
use Rattle.std.specs.Prelude.{Ok}
use mathlib.Core.Bool.{Bool, true, not}
use mathlib.Core.List.{List, [], ◌∷◌}
use mathlib.Core.Path.{◌≡◌, refl, ap}
use Prim.Native.Nat.{ℕ, ◌+◌, ◌*◌, ◌/◌, ◌<◌}
use native.Mathlib.Omega.{arith}
use lib.Dec.{eqb, ltb}
use lib.IntN.{pos, nat_abs, ◌+ℤ◌}
use lib.ListN.{get_or}
use borrow.Author.Tests.{eqb-true, ltb-true}
use Rattle.meaning.specs.Answers.{fields_check}
use Rattle.meaning.specs.Bytes.{both}
use Rattle.meaning.specs.Calendar.{leap, leap_year, year_length, days_on, new_year, total, month_length, before_month, is_date, day_of_year, date_number}
use Rattle.meaning.specs.Days.{is_short, day_number}
use Rattle.meaning.specs.Trust.{RealDay}
use Rattle.meaning.specs.Weeks.{since_monday, weekday, thursday}
use Rattle.meaning.specs.Writing.{hour_of, quantity_of}
use Rattle.meaning.specs.declared.Fields.{Fields}
use Rattle.meaning.specs.declared.Quantity.TheVariants.{Minute, Second}
use Rattle.laws.proofs.CalendarYears.{days-on}
use Rattle.laws.proofs.Tests.{every, every-at}
use Rattle.trust.proofs.Witness.{of-witness}
use Rattle.trust.specs.Check.{short_numbers, long_numbers, long_year, witness}
use Rattle.trust.specs.declared.Need.{Need}

-- the days before the two years, in closed form

before-2024 : days_on 2023 ≡ 738885
before-2024 = omega (arith, days-on 2023)

before-1000001 : days_on 1000000 ≡ 365242500
before-1000001 = omega (arith, days-on 1000000)

-- what is computed of a record: its date, that 32 signed bits hold the number, its day of the year, its week by that of the
-- Thursday, with so many days of the year before the first and so many weeks behind that, and its weekday
tests : Fields → ℕ → ℕ → ℕ → List Bool
tests f number first later =
    is_date f.year f.month f.day ∷ is_short (pos number) ∷ eqb f.doy (day_of_year f.year f.month f.day)
    ∷ eqb f.week (1 + later) ∷ eqb f.wday (weekday (pos number)) ∷ ltb first 7
    ∷ ltb (first + 7 * later) (year_length (leap_year f.year)) ∷ ltb 0 (nat_abs f.year) ∷ []

record Facts (f : Fields) (number first later : ℕ) : Type 0 where
  allowed : fields_check f ≡ Ok tt
  numbered : date_number f.year f.month f.day ≡ pos number
  thursday-is : new_year f.year +ℤ pos (first + 7 * later) ≡ thursday (pos number)
  computed : every (λ holds. holds) (tests f number first later) ≡ true

real-by : (f : Fields) (number first later : ℕ) → Facts f number first later → RealDay f
unfolding tests every day_number
real-by f number first later facts =
    let test : (i : ℕ) → i < 8 → get_or (tests f number first later) i true ≡ true
    = λ i h. every-at (λ holds. holds) (tests f number first later) true facts.computed i h in
    record {
      allowed = facts.allowed;
      number = pos number;
      numbered = rw (test 0 (omega arith), facts.numbered, test 1 (omega arith));
      is =
          record {
            real = test 0 (omega arith);
            numbered = facts.numbered;
            doy-is = eqb-true _ _ (test 2 (omega arith));
            week-is =
                record {
                  year = f.year;
                  there = λ e. let some : 0 < nat_abs f.year = ltb-true 0 _ (test 7 (omega arith)) in omega (arith, ap nat_abs e);
                  first = first;
                  early = ltb-true first 7 (test 5 (omega arith));
                  later = later;
                  in_year = ltb-true _ _ (test 6 (omega arith));
                  here = facts.thursday-is;
                  count = eqb-true _ _ (test 3 (omega arith));
                };
            wday-is = eqb-true _ _ (test 4 (omega arith));
          };
    }

short-facts : Facts short_numbers 738920 3 5
unfolding tests every fields_check leap new_year total month_length before_month is_date day_of_year date_number since_monday weekday thursday
short-facts = record { allowed = refl; numbered = rw before-2024; thursday-is = rw before-2024; computed = refl }

long-facts : Facts long_numbers 739212 3 46
unfolding tests every fields_check leap new_year total month_length before_month is_date day_of_year date_number since_monday weekday thursday
long-facts = record { allowed = refl; numbered = rw before-2024; thursday-is = rw before-2024; computed = refl }

year-facts : Facts long_year 365242826 3 46
unfolding tests every fields_check leap new_year total month_length before_month is_date day_of_year date_number since_monday weekday thursday
year-facts =
    record { allowed = refl; numbered = rw before-1000001; thursday-is = rw before-1000001; computed = refl }

pub witness-real : (need : Need) → RealDay (witness need)
witness-real =
    of-witness RealDay (real-by short_numbers 738920 3 5 short-facts) (real-by long_numbers 739212 3 46 long-facts)
    (real-by long_year 365242826 3 46 year-facts)

pub numbers_of : Fields → List ℕ
numbers_of f =
    nat_abs f.year ∷ f.month ∷ f.day ∷ f.doy ∷ f.week ∷ f.wday ∷ hour_of f ∷ quantity_of Minute f ∷ quantity_of Second f
    ∷ nat_abs f.offset / 3600 ∷ []

pub all_differ : List ℕ → Bool
all_differ [] = true
all_differ (n ∷ ns) = both (every (λ m. not (eqb n m)) ns) (all_differ ns)

pub witness-differs : (need : Need) → all_differ (numbers_of (witness need)) ≡ true
unfolding numbers_of all_differ every quantity_of
witness-differs = of-witness (λ f. all_differ (numbers_of f) ≡ true) refl refl refl
