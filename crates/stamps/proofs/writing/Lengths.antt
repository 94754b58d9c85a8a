-- How long the pieces of a stamp's text are.
use mathlib.Core.Bool.{true, false}
use mathlib.Core.List.{List, [], ◌∷◌, ◌++◌}
use mathlib.Core.Path.{◌≡◌, ap}
use Prim.Native.Nat.{ℕ, ◌+◌, ◌/◌, ◌%◌, ◌≤◌, ◌<◌}
use native.Mathlib.Omega.{arith}
use borrow.Author.Tests.{eq-eqb, ne_eqb, eqb-true, eqb-false}
use lib.Dec.{eqb}
use lib.IntN.{nat_abs}
use lib.ListN.{length, length-append}
use Rattle.laws.proofs.Digits.{length_digits, num-fits, num-digits}
use Rattle.laws.proofs.Stamps.{Written, sizes, year-small}
use Rattle.laws.proofs.Tests.{by-test}
use Rattle.meaning.specs.Bytes.{bytes, digits, num, minus, colon}
use Rattle.meaning.specs.Stamps.{fraction_text, stamp_date, stamp_time, stamp_fraction, stamp_offset, stamp_text}
use Rattle.meaning.specs.Writing.{quantity_of, offset_text, offset_digits, zone_text}
use Rattle.meaning.specs.declared.Group.TheVariants.{Never, Always}
use Rattle.meaning.specs.declared.Stamp.{Stamp}

pub two-long : (n : ℕ) → n < 100 → length (num 2 n) ≡ 2
two-long n h = num-fits 2 n (omega arith) h

-- ten bytes of a date, nine of a time behind its T

pub date-long : (y mo d : ℕ) → y < 10000 → mo < 100 → d < 100 → length (num 4 y ++ minus ∷ num 2 mo ++ minus ∷ num 2 d) ≡ 10
date-long y mo d hy hmo hd =
    simp length-append (omega (arith, num-fits 4 y (omega arith) hy, two-long mo hmo, two-long d hd))

pub time-long : (x : ℕ) → x < 86400 → length (84 ∷ num 2 (x / 3600) ++ colon ∷ num 2 (x % 3600 / 60) ++ colon ∷ num 2 (x % 60)) ≡ 9
time-long x h =
    simp length-append
    (omega (arith, two-long (x / 3600) (omega arith), two-long (x % 3600 / 60) (omega arith), two-long (x % 60) (omega arith)))

pub no_fraction : (n : ℕ) → n ≡ 0 → fraction_text n ≡ []
no_fraction n e = rw (eq-eqb n 0 e)

pub nine-fraction : (n : ℕ) → (n ≡ 0 → ⊥) → n < 1000000000 → fraction_text n ≡ 46 ∷ digits 9 n
nine-fraction n e h = rw (ne_eqb n 0 e, num-digits 9 n (omega arith) h)

-- the offset

module _ (t : Stamp) where
  pub mark-text : t.unknown ≡ true → stamp_offset t ≡ 45 ∷ 48 ∷ 48 ∷ 58 ∷ 48 ∷ 48 ∷ []
  unfolding stamp_offset bytes
  mark-text e = rw e

  pub zone-text : t.unknown ≡ false → stamp_offset t ≡ zone_text true true Always Never t.offset
  unfolding stamp_offset
  zone-text e = rw e

  pub mark-long : t.unknown ≡ true → length (stamp_offset t) ≡ 6
  mark-long e = rw (mark-text e)

  module _ (known : t.unknown ≡ false) where
    pub z-long : nat_abs t.offset ≡ 0 → length (stamp_offset t) ≡ 1
    unfolding stamp_offset
    z-long e = rw (known, eq-eqb (nat_abs t.offset) 0 e)

    pub shift-long : nat_abs t.offset ≤ 86399 → (nat_abs t.offset ≡ 0 → ⊥) → length (stamp_offset t) ≡ 6
    unfolding stamp_offset offset_text offset_digits
    shift-long h e =
        let n = nat_abs t.offset in
        rw (known, ne_eqb n 0 e)
        (simp length-append (omega (arith, two-long (n / 3600) (omega arith), two-long (n % 3600 / 60) (omega arith))))

pub offset-short : (t : Stamp) → Written t → length (stamp_offset t) ≤ 6
offset-short t w =
    by-test t.unknown (λ e. omega (arith, mark-long t e))
    (λ e.
    by-test (eqb (nat_abs t.offset) 0)
    (λ z. omega (arith, z-long t e (eqb-true (nat_abs t.offset) 0 z)))
    (λ z. omega (arith, shift-long t e (sizes t w).offset (eqb-false (nat_abs t.offset) 0 z))))

-- the whole text, in the pieces that are laid

abbrev pub date_of : Stamp → List ℕ
date_of t = num 4 (nat_abs t.year) ++ minus ∷ num 2 t.month ++ minus ∷ num 2 t.day

abbrev pub time_of : ℕ → List ℕ
time_of x = 84 ∷ num 2 (x / 3600) ++ colon ∷ num 2 (x % 3600 / 60) ++ colon ∷ num 2 (x % 60)

abbrev pub second_in : Stamp → ℕ
second_in t = t.nanos / 1000000000

abbrev pub fraction_in : Stamp → ℕ
fraction_in t = t.nanos % 1000000000

pub in_pieces : (t : Stamp) → stamp_text t ≡ date_of t ++ time_of (second_in t) ++ fraction_text (fraction_in t) ++ stamp_offset t
unfolding stamp_text stamp_date stamp_time stamp_fraction quantity_of
in_pieces t = let e : fraction_in t / 1 ≡ fraction_in t = omega arith in rw e

module _ (t : Stamp) (w : Written t) where
  pub second-small : second_in t < 86400
  second-small = omega (arith, (sizes t w).nanos)

  pub date-ten : length (date_of t) ≡ 10
  date-ten =
      let a = sizes t w in
      date-long (nat_abs t.year) t.month t.day (year-small t w) (omega (arith, a.month)) (omega (arith, a.day))

  pub text-long : length (stamp_text t) ≡ 19 + length (fraction_text (fraction_in t)) + length (stamp_offset t)
  text-long =
      let p = date_of t in
      let q = time_of (second_in t) in
      let f = fraction_text (fraction_in t) in
      rw (in_pieces t, length-append (p ++ q ++ f) (stamp_offset t), length-append (p ++ q) f, length-append p q, date-ten, time-long (second_in t) second-small)

  pub text-short : length (stamp_text t) ≤ 35
  text-short =
      let n = fraction_in t in
      by-test (eqb n 0) (λ e. omega (arith, text-long, offset-short t w, ap length (no_fraction n (eqb-true n 0 e))))
      (λ e. omega (arith, text-long, offset-short t w, ap length (nine-fraction n (eqb-false n 0 e) (omega arith)), length_digits 9 n))
