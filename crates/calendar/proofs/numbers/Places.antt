-- The number of a date by its year's place.
use mathlib.Core.Bool.{true}
use mathlib.Core.Path.{◌≡◌, sym}
use Prim.Native.Nat.{ℕ, ◌+◌, ◌-◌, ◌<◌}
use native.Mathlib.Omega.{arith}
use lib.IntN.{ℤ, nat_abs}
use Rattle.calendar.specs.Places.{place_of, number_at}
use Rattle.std.specs.Prelude.{Some, None, Err}
use Rattle.laws.proofs.CalendarLine.{OnLine, near-place, in-year, leap-place}
use Rattle.laws.proofs.Checks.{within-is}
use Rattle.laws.proofs.Tests.{by-test}
use Rattle.laws.specs.CalendarLine.{place}
use Rattle.meaning.specs.Answers.{within}
use Rattle.meaning.specs.Calendar.{leap_year, before_month, is_date, day_of_year, date_number}
use Rattle.meaning.specs.Days.{day_number}
use Rattle.meaning.specs.declared.Refusal.TheVariants.{NoSuchDay}

pub record Placed (y : ℤ) (m d p : ℕ) : Type 0 where
  pub known : p < 11760000
  pub number : number_at p m d ≡ day_number y m d

at_place : (y : ℤ) (m d : ℕ) → OnLine y → within 1 5879611 (nat_abs y) ≡ true → number_at (place y) m d ≡ day_number y m d
unfolding number_at day_number is_date date_number day_of_year
at_place y m d h t = rw (t, in-year y (before_month (leap_year y) m + d - 1) h, leap-place y h)

pub placed : (y : ℤ) (m d p : ℕ) → place_of y ≡ Some p → Placed y m d p
placed y m d p e =
    by-test (within 1 5879611 (nat_abs y))
    (λ t.
    let n = within-is 1 5879611 (nat_abs y) t in
    let h : OnLine y = record { some = n.0; near = omega arith } in
    let i : place y ≡ p = cc (sym (rw t at e)) in
    record { known = rw (sym i) (near-place y h); number = rw (sym i) (at_place y m d h t) })
    (λ t. let f : None ≡ Some p = rw t at e in absurd (let z : ◌≡◌ {A = ℕ} 0 1 = cc in omega arith))

pub unplaced : (y : ℤ) (m d : ℕ) → place_of y ≡ None → Err NoSuchDay ≡ day_number y m d
unfolding day_number is_date
unplaced y m d e =
    by-test (within 1 5879611 (nat_abs y))
    (λ t. let f : Some (place y) ≡ None = rw t at e in absurd (let z : ◌≡◌ {A = ℕ} 0 1 = cc in omega arith))
    (λ t. rw t)
