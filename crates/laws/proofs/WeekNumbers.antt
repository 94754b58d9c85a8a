-- Weeks: they are 1 to 53, a day is in one alone, and the next day is in the same week but for a Monday, which is in the next one
-- or in week 1.
use mathlib.Core.Logic.{◌⊎◌, inl, inr}
use mathlib.Core.Path.{◌≡◌, refl, sym, ap, ◌∙◌}
use Prim.Native.Nat.{ℕ, zero, suc, ◌+◌, ◌-◌, ◌*◌, ◌/◌, ◌%◌, ◌≤◌, ◌<◌}
use native.Mathlib.Omega.{arith}
use borrow.Author.Tests.{ltb-true, ltb-false}
use lib.Dec.{ltb}
use lib.IntN.{ℤ, pos, negsuc, sub_ℕ, ◌+ℤ◌}
use Rattle.meaning.specs.Calendar.{leap, leap_year, year_length, days_on, days_back, new_year}
use Rattle.meaning.specs.Weeks.{weekday, IsWeek}
use Rattle.laws.proofs.CalendarCycles.{year-after}
use Rattle.laws.proofs.CalendarDates.{one_place}
use Rattle.laws.proofs.CalendarLine.{OnLine, near-place, in-year, leap-place, line-day_at, line-next, thursday-at, line-room, since-monday, sub-add, sub-neg, sub-short}
use Rattle.laws.proofs.CalendarYears.{year-short, year-long, days-on, days-back}
use Rattle.laws.proofs.Tests.{by-test}
use Rattle.laws.specs.CalendarLine.{Short, line, day_at, place, WeekOn}

pub week-range : (z : ℤ) (w : ℕ) → IsWeek z w → (1 ≤ w) × (w ≤ 53)
week-range z w i =
    let s = year-short (leap_year i.year) in
    (omega (arith, i.count), omega (arith, i.count, i.in_year))

-- the year of a week's Thursday is on the line

far-back : (b n : ℕ) → b + (n + 99) / 100 ≡ 365 * n + (n + 3) / 4 + (n + 399) / 400 → b < 2147625900 → n ≤ 5880000
far-back b n e h = omega arith

near-back : (n past N : ℕ) → past < 366 → 366 ≤ N → new_year (negsuc n) +ℤ pos past ≡ day_at N → days_back (suc n) < 2147625900
unfolding new_year
near-back n past N h k e =
    let b = days_back (suc n) in
    let f : sub_ℕ (0 + past) b ≡ day_at N = sym (ap (λ (x : ℤ). x +ℤ pos past) (sym (sub-short 0 b b (omega arith))) ∙ sub-add 0 past b) ∙ e in
    by-test (ltb (0 + past) b)
    (λ t.
    let g : line (negsuc (b - suc (0 + past))) ≡ N = ap line (sym (sub-neg (0 + past) b (ltb-true (0 + past) b t)) ∙ f) ∙ line-day_at N in
    omega arith)
    (λ t. omega (arith, ltb-false (0 + past) b t))

near_on : (n past N : ℕ) → N < 4295251800 → new_year (pos n) +ℤ pos past ≡ day_at N → days_on (n - 1) < 2147625900
unfolding new_year
near_on n past N h e = let g : days_on (n - 1) + past + 2147625900 ≡ N = ap line e ∙ line-day_at N in omega arith

near : (y : ℤ) (past N : ℕ) → (y ≡ pos 0 → ⊥) → past < 366 → 366 ≤ N → N < 4295251800 → new_year y +ℤ pos past ≡ day_at N → OnLine y
near (pos zero) past N s h k t e = absurd (s refl)
near (pos (suc n)) past N s h k t e =
    record { some = omega arith; near = omega (arith, near_on (suc n) past N t e, days-on (suc n - 1)) }
near (negsuc n) past N s h k t e =
    record { some = omega arith; near = far-back (days_back (suc n)) (suc n) (days-back (suc n)) (near-back n past N h k e) }

-- a week by its Thursday on the line
week-on : (z : ℤ) (w : ℕ) → Short z → IsWeek z w → WeekOn (line z - line z % 7 + 3) w
week-on z w short i =
    let n = line z - line z % 7 + 3 in
    let past = i.first + 7 * i.later in
    let room = line-room z short in
    let t = thursday-at z short in
    let y = near i.year past n i.there (omega (arith, i.in_year, year-short (leap_year i.year))) (omega arith) (omega arith) (i.here ∙ t) in
    record {
      at = place i.year;
      past = past;
      found =
          record {
            known = near-place i.year y;
            here =
                sym (line-day_at (days_on (place i.year) + past)) ∙ ap line (sym (in-year i.year past y) ∙ i.here ∙ t)
                ∙ line-day_at n;
            inside = rw (leap-place i.year y) at i.in_year;
          };
      count = omega (arith, i.early, i.count);
    }

same-on : (t w v : ℕ) → WeekOn t w → WeekOn t v → w ≡ v
same-on t w v a b =
    let s = one_place a.at b.at a.past b.past a.found.inside b.found.inside (a.found.here ∙ sym b.found.here) in
    a.count ∙ ap (λ (k : ℕ). k / 7 + 1) s.since ∙ sym b.count

pub one-week : (z : ℤ) (w v : ℕ) → Short z → IsWeek z w → IsWeek z v → w ≡ v
one-week z w v short a b = same-on (line z - line z % 7 + 3) w v (week-on z w short a) (week-on z v short b)

-- the week of the next day

is-monday : (z : ℤ) → Short z → weekday z ≡ 1 → line z % 7 ≡ 0
unfolding weekday
is-monday z short e = omega (arith, since-monday z short)

no-monday : (z : ℤ) → Short z → (weekday z ≡ 1 → ⊥) → line z % 7 ≡ 0 → ⊥
unfolding weekday
no-monday z short h e = h (omega (arith, since-monday z short))

pub same-week : (z : ℤ) (w v : ℕ) → Short z → Short (z +ℤ pos 1) → IsWeek z w → IsWeek (z +ℤ pos 1) v → (weekday (z +ℤ pos 1) ≡ 1 → ⊥) → v ≡ w
same-week z w v short next a b h =
    let e = line-next z short in
    let k : suc (line z) % 7 ≡ 0 → ⊥ = λ f. no-monday (z +ℤ pos 1) next h (ap (λ (n : ℕ). n % 7) e ∙ f) in
    let d : suc (line z) - suc (line z) % 7 + 3 ≡ line z - line z % 7 + 3 = omega arith in
    same-on (line z - line z % 7 + 3) v w (rw (e, d) at (week-on (z +ℤ pos 1) v next b)) (week-on z w short a)

next-on : (t w v : ℕ) → WeekOn t w → WeekOn (t + 7) v → (v ≡ w + 1) ⊎ ((v ≡ 1) × (52 ≤ w))
next-on t w v a b =
    let p = a.at in
    let l = year_length (leap (suc p)) in
    let long = year-long (leap (suc p)) in
    let e : days_on p + a.past + 7 ≡ days_on b.at + b.past = omega (arith, a.found.here, b.found.here) in
    by-test (ltb (a.past + 7) l)
    (λ t.
    let s = one_place p b.at (a.past + 7) b.past (ltb-true (a.past + 7) l t) b.found.inside (omega arith) in
    inl (omega (arith, a.count, b.count, s.since)))
    (λ t.
    let i = a.found.inside in
    let g = ltb-false (a.past + 7) l t in
    let s = one_place (suc p) b.at (a.past + 7 - l) b.past (omega (arith, year-long (leap (suc (suc p))))) b.found.inside (omega (arith, year-after p)) in
    inr (omega (arith, b.count, s.since), omega (arith, a.count)))

pub next-week : (z : ℤ) (w v : ℕ) → Short z → Short (z +ℤ pos 1) → IsWeek z w → IsWeek (z +ℤ pos 1) v → weekday (z +ℤ pos 1) ≡ 1 → (v ≡ w + 1) ⊎ ((v ≡ 1) × (52 ≤ w))
next-week z w v short next a b h =
    let e = line-next z short in
    let k : suc (line z) % 7 ≡ 0 = sym (ap (λ (n : ℕ). n % 7) e) ∙ is-monday (z +ℤ pos 1) next h in
    let d : suc (line z) - suc (line z) % 7 + 3 ≡ line z - line z % 7 + 3 + 7 = omega arith in
    next-on (line z - line z % 7 + 3) w v (week-on z w short a) (rw (e, d) at (week-on (z +ℤ pos 1) v next b))
