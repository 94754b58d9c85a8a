-- Between the calendar's signed numbers and the line: a date's number is a day of the line, and the days and years come back.
use mathlib.Core.Path.{◌≡◌, sym, ap, ◌∙◌}
use Prim.Native.Nat.{ℕ, zero, suc, ◌+◌, ◌-◌, ◌%◌, ◌≤◌, ◌<◌}
use native.Mathlib.Omega.{arith}
use borrow.Author.Tests.{ltb-true, ltb-false, leb-true, leb-false, le-ltb, lt-ltb, le-leb, lt-leb}
use lib.Dec.{ltb, leb}
use lib.IntN.{ℤ, pos, negsuc, neg_ℤ, nat_abs, sub_ℕ, ◌+ℤ◌, ◌-ℤ◌, +ℤ-neg_ℤ_cancel}
use Rattle.meaning.specs.Calendar.{leap, leap_year, days_on, days_back, new_year}
use Rattle.meaning.specs.Weeks.{since_monday, thursday}
use Rattle.laws.specs.CalendarLine.{Short, line, day_at, place, year_at}
use Rattle.laws.proofs.Tests.{by-test}
use Rattle.laws.proofs.CalendarCycles.{cycles-on, cycles-back, leap-on, leap-back}

-- a difference of two numbers, as an integer

pub sub-pos : (a s : ℕ) → s ≤ a → sub_ℕ a s ≡ pos (a - s)
sub-pos a s h = rw (le-ltb a s h)

pub sub-neg : (a s : ℕ) → a < s → sub_ℕ a s ≡ negsuc (s - suc a)
sub-neg a s h = rw (lt-ltb a s h)

sub-on : (a b c s : ℕ) → s ≡ a + c → sub_ℕ b c ≡ sub_ℕ (a + b) s
sub-on a b c s e =
    by-test (ltb b c)
    (λ t. let h = ltb-true b c t in sub-neg b c h ∙ ap negsuc (omega arith) ∙ sym (sub-neg (a + b) s (omega arith)))
    (λ t. let h = ltb-false b c t in sub-pos b c h ∙ ap pos (omega arith) ∙ sym (sub-pos (a + b) s (omega arith)))

pub sub-add : (a b s : ℕ) → sub_ℕ a s +ℤ pos b ≡ sub_ℕ (a + b) s
sub-add a b s =
    by-test (ltb a s)
    (λ t. let h = ltb-true a s t in ap (λ (z : ℤ). z +ℤ pos b) (sub-neg a s h) ∙ sub-on a b (suc (s - suc a)) s (omega arith))
    (λ t.
    let h = ltb-false a s t in
    ap (λ (z : ℤ). z +ℤ pos b) (sub-pos a s h) ∙ ap pos (omega arith) ∙ sym (sub-pos (a + b) s (omega arith)))

pub sub-take : (a b s : ℕ) → b ≤ a → sub_ℕ a s -ℤ pos b ≡ sub_ℕ (a - b) s
sub-take a b s h =
    ap (λ (z : ℤ). z -ℤ pos b) (ap (λ (n : ℕ). sub_ℕ n s) (omega arith) ∙ sym (sub-add (a - b) b s))
    ∙ +ℤ-neg_ℤ_cancel (sub_ℕ (a - b) s) (pos b)

pub sub-short : (a b s : ℕ) → a + b ≡ s → sub_ℕ a s ≡ neg_ℤ (pos b)
sub-short a zero s e = sub-pos a s (omega arith) ∙ ap pos (omega arith)
sub-short a (suc b) s e = sub-neg a s (omega arith) ∙ ap negsuc (omega arith)

-- days

pub line-day_at : (n : ℕ) → line (day_at n) ≡ n
line-day_at n =
    by-test (ltb n 2147625900)
    (λ t. let h = ltb-true n 2147625900 t in ap line (sub-neg n 2147625900 h) ∙ omega arith)
    (λ t. let h = ltb-false n 2147625900 t in ap line (sub-pos n 2147625900 h) ∙ omega arith)

pub day_at-line : (z : ℤ) → Short z → day_at (line z) ≡ z
day_at-line (pos n) h = sub-pos (n + 2147625900) 2147625900 (omega arith) ∙ ap pos (omega arith)
day_at-line (negsuc n) h = sub-neg (2147625900 - suc n) 2147625900 (omega arith) ∙ ap negsuc (omega arith)

-- the next day is at the next place
pub line-next : (z : ℤ) → Short z → line (z +ℤ pos 1) ≡ suc (line z)
line-next z h =
    ap (λ (x : ℤ). line (x +ℤ pos 1)) (sym (day_at-line z h)) ∙ ap line (sub-add (line z) 1 2147625900)
    ∙ line-day_at (line z + 1) ∙ omega arith

-- years

-- a year that has a place
pub record OnLine (y : ℤ) : Type 0 where
  pub some : 1 ≤ nat_abs y
  pub near : nat_abs y ≤ 5880000

pub near-place : (y : ℤ) → OnLine y → place y < 11760000
near-place (pos n) h = omega (arith, h.near)
near-place (negsuc n) h = omega arith

pub place-year_at : (p : ℕ) → place (year_at p) ≡ p
place-year_at p =
    by-test (leb 5880000 p) (λ t. let h = leb-true 5880000 p t in rw t (omega arith))
    (λ t. let h = leb-false 5880000 p t in rw t (omega arith))

pub year_at-place : (y : ℤ) → OnLine y → year_at (place y) ≡ y
year_at-place (pos n) h = rw (le-leb 5880000 (5880000 + (n - 1)) (omega arith)) (ap pos (omega arith))
year_at-place (negsuc n) h = rw (lt-leb 5880000 (5880000 - suc n) (omega arith)) (ap negsuc (omega arith))

pub year-year_at : (p : ℕ) → p < 11760000 → OnLine (year_at p)
year-year_at p below =
    by-test (leb 5880000 p) (λ t. let h = leb-true 5880000 p t in rw t (record { some = omega arith; near = omega arith }))
    (λ t. let h = leb-false 5880000 p t in rw t (record { some = omega arith; near = omega arith }))

pub leap-place : (y : ℤ) → OnLine y → leap_year y ≡ leap (suc (place y))
leap-place (pos n) h = sym (ap leap (omega arith) ∙ leap-on 14700 n)
leap-place (negsuc n) h = sym (ap leap (omega arith) ∙ leap-back n (omega arith))

pub new-year : (y : ℤ) → OnLine y → new_year y ≡ day_at (days_on (place y))
unfolding new_year
new-year (pos n) h =
    let e : days_on (5880000 + (n - 1)) ≡ 2147625900 + days_on (n - 1) = cycles-on 14700 (n - 1) in
    sym (sub-pos (days_on (5880000 + (n - 1))) 2147625900 (omega arith) ∙ ap pos (omega arith))
new-year (negsuc n) h = sym (sub-short (days_on (5880000 - suc n)) (days_back (suc n)) 2147625900 (cycles-back (suc n) h.near))

pub in-year : (y : ℤ) (past : ℕ) → OnLine y → new_year y +ℤ pos past ≡ day_at (days_on (place y) + past)
in-year y past h = ap (λ (z : ℤ). z +ℤ pos past) (new-year y h) ∙ sub-add (days_on (place y)) past 2147625900

-- weekdays

pub since-monday : (z : ℤ) → Short z → since_monday z ≡ line z % 7
unfolding since_monday
since-monday (pos n) h = omega arith
since-monday (negsuc n) h = omega arith

pub line-room : (z : ℤ) → Short z → (142252 ≤ line z) × (line z ≤ 4295109547)
line-room (pos n) h = omega arith
line-room (negsuc n) h = omega arith

pub thursday-at : (z : ℤ) → Short z → thursday z ≡ day_at (line z - line z % 7 + 3)
unfolding thursday
thursday-at z h =
    rw (since-monday z h)
    (ap (λ (x : ℤ). x -ℤ pos (line z % 7) +ℤ pos 3) (sym (day_at-line z h))
    ∙ ap (λ (x : ℤ). x +ℤ pos 3) (sub-take (line z) (line z % 7) 2147625900 (omega arith))
    ∙ sub-add (line z - line z % 7) 3 2147625900)
