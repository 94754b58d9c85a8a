-- What it says that no check of a date-time that was read refuses: each number is in its range, and there is such a day.
use Rattle.std.specs.Prelude.{Ok}
use mathlib.Core.Bool.{true, not}
use mathlib.Core.Path.{◌≡◌}
use Prim.Native.Nat.{ℕ, ◌≤◌}
use borrow.Author.Tests.{eqb-false, leb-true, not-true}
use lib.Dec.{eqb, leb}
use lib.IntN.{pos}
use Rattle.meaning.specs.Answers.{refuse_unless, within}
use Rattle.meaning.specs.Days.{day_check}
use Rattle.meaning.specs.StampGrammar.{DateTime}
use Rattle.meaning.specs.Stamps.{is_clock, in_range, date_time_check}
use Rattle.meaning.specs.declared.Refusal.TheVariants.{StampRange, LeapSecond, StampYear}
use Rattle.laws.proofs.Checks.{else-fine, fine-unless, within-is}
use Rattle.laws.proofs.Tests.{both_true}

pub record InRange (t : DateTime) : Type 0 where
  pub month : (1 ≤ t.date.month) × (t.date.month ≤ 12)
  pub day : (1 ≤ t.date.day) × (t.date.day ≤ 31)
  pub hour : t.time.hour ≤ 23
  pub minute : t.time.minute ≤ 59
  pub second : t.time.second ≤ 60
  pub offset-hour : t.offset.hour ≤ 23
  pub offset-minute : t.offset.minute ≤ 59

pub in-range : (t : DateTime) → in_range t ≡ true → InRange t
unfolding in_range
in-range t h =
    let month = both_true (within 1 12 t.date.month) _ h in
    let day = both_true (within 1 31 t.date.day) _ month.1 in
    let clock = both_true (is_clock t.time.hour t.time.minute) _ day.1 in
    let second = both_true (leb t.time.second 60) _ clock.1 in
    let time = both_true (leb t.time.hour 23) (leb t.time.minute 59) clock.0 in
    let shift = both_true (leb t.offset.hour 23) (leb t.offset.minute 59) second.1 in
    record {
      month = within-is 1 12 t.date.month month.0;
      day = within-is 1 31 t.date.day day.0;
      hour = leb-true t.time.hour 23 time.0;
      minute = leb-true t.time.minute 59 time.1;
      second = leb-true t.time.second 60 second.0;
      offset-hour = leb-true t.offset.hour 23 shift.0;
      offset-minute = leb-true t.offset.minute 59 shift.1;
    }

not_equal : (n k : ℕ) → not (eqb n k) ≡ true → n ≡ k → ⊥
not_equal n k h = eqb-false n k (not-true (eqb n k) h)

-- 26, 27, 28, 17
pub record Accepted (t : DateTime) : Type 0 where
  pub range : in_range t ≡ true
  pub second : t.time.second ≡ 60 → ⊥
  pub year : t.date.year ≡ 0 → ⊥
  pub day : day_check (pos t.date.year) t.date.month t.date.day ≡ Ok tt

pub checks-fine : (t : DateTime) → date_time_check t ≡ Ok tt → Accepted t
unfolding date_time_check
checks-fine t h =
    let range = else-fine (refuse_unless (in_range t) StampRange) _ h in
    let second = else-fine (refuse_unless (not (eqb t.time.second 60)) LeapSecond) _ range.1 in
    let year = else-fine (refuse_unless (not (eqb t.date.year 0)) StampYear) _ second.1 in
    record {
      range = fine-unless (in_range t) StampRange range.0;
      second = not_equal t.time.second 60 (fine-unless (not (eqb t.time.second 60)) LeapSecond second.0);
      year = not_equal t.date.year 0 (fine-unless (not (eqb t.date.year 0)) StampYear year.0);
      day = year.1;
    }
