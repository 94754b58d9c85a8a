-- A date-time by its bytes: the nineteen at fixed places, and then what the fraction, the offset and the end give.
use mathlib.Core.Bool.{true, false}
use mathlib.Core.List.{List}
use mathlib.Core.Path.{◌≡◌, refl, sym, ◌∙◌}
use Prim.Native.Nat.{ℕ, ◌+◌, ◌-◌, ◌*◌, ◌≤◌, ◌<◌}
use native.Mathlib.Numerals.{add-one}
use native.Mathlib.Omega.{arith}
use borrow.Author.Tests.{eq-eqb, ne_eqb}
use lib.Dec.{eqb}
use lib.ListN.{length, get_or, drop, get_or-eq_default}
use Rattle.laws.proofs.Digits.{digit-bounds}
use Rattle.laws.proofs.Tests.{by-test}
use Rattle.meaning.specs.Bytes.{is_digit, digit_at, minus}
use Rattle.meaning.specs.Reading.{digit_run}
use Rattle.meaning.specs.StampGrammar.{Ruled, reads, halts, Grammar, onward, ◌then◌, ◌before◌, done, one_byte, is_dash, is_colon, is_t, is_z, is_sign, is_point, digits_from, some_digits, nanos_of, time_secfrac, date_month, date_mday, time_hour, time_minute, time_second, optional_secfrac, NumOffset, zulu, time_numoffset, time_offset, PartialTime, partial_time, FullDate, full_date, FullTime, full_time, DateTime, date_time, whole}
use Rattle.numerals.specs.Numbers.{pair_at}
use Rattle.stamps.proofs.grammar.Fractions.{some-run, no_run, nanos-weighed}
use Rattle.stamps.proofs.grammar.Prefixes.{Begins, all-taken, not_taken, begins-then, begins-on, begins-done, begins-byte, begins-pair, begins-hour}
use Rattle.stamps.proofs.shape.Wrongs.{taken_at}
use Rattle.stamps.specs.Found.{fraction_by, zone_by, offset_of}
use Rattle.stamps.specs.Fractions.{weighted}
use Rattle.stamps.specs.Shape.{takes, first_wrong}
use Rattle.stamps.specs.declared.grammar.Shift.{Shift}
use Rattle.std.specs.Prelude.{Result, Ok, Err}
use Rattle.stamps.specs.declared.grammar.Halted.{Halted}

module _ (s : List ℕ) where
  abbrev pub year_in : ℕ
  year_in = pair_at 0 s * 100 + pair_at 2 s

  begins-year : Begins (digits_from 4 0) 4 0 0 s (reads year_in 4)
  unfolding takes digits_from
  begins-year =
      let a = 0 * 10 + (get_or s 0 0 - 48) in
      let b = a * 10 + (get_or s 1 0 - 48) in
      let c = b * 10 + (get_or s 2 0 - 48) in
      let four = begins-then (λ d. digits_from 3 (0 * 10 + (d - 48))) 4 (begins-byte is_digit 0 0 1 s refl (λ b. refl)) refl (omega arith)
      (begins-then (λ d. digits_from 2 (a * 10 + (d - 48))) 3 (begins-byte is_digit 1 1 2 s refl (λ b. refl)) refl (omega arith)
      (begins-then (λ d. digits_from 1 (b * 10 + (d - 48))) 2 (begins-byte is_digit 2 2 3 s refl (λ b. refl)) refl (omega arith)
      (begins-on (λ d. digits_from 0 (c * 10 + (d - 48))) (begins-byte is_digit 3 3 4 s refl (λ b. refl))))) in
      let v : c * 10 + (get_or s 3 0 - 48) ≡ year_in = omega arith in
      rw v at four

  abbrev pub date_in : FullDate
  date_in = record { year = year_in; month = pair_at 5 s; day = pair_at 8 s }

  begins-date : Begins full_date 10 0 0 s (reads date_in 10)
  unfolding takes full_date
  begins-date =
      begins-then (λ y. one_byte is_dash before date_month then λ m. one_byte is_dash before date_mday then λ d. done (record { year = y; month = m; day = d })) 10 begins-year refl (omega arith)
      (begins-then (λ _. date_month then λ m. one_byte is_dash before date_mday then λ d. done (record { year = year_in; month = m; day = d })) 6 (begins-byte is_dash 4 4 5 s refl (λ b. refl)) refl (omega arith)
      (begins-then (λ m. one_byte is_dash before date_mday then λ d. done (record { year = year_in; month = m; day = d })) 5 (begins-pair 5 5 7 s refl (λ b. refl) (λ b. refl)) refl (omega arith)
      (begins-then (λ _. date_mday then λ d. done (record { year = year_in; month = pair_at 5 s; day = d })) 3 (begins-byte is_dash 7 7 8 s refl (λ b. refl)) refl (omega arith)
      (begins-on (λ d. done (record { year = year_in; month = pair_at 5 s; day = d })) (begins-pair 8 8 10 s refl (λ b. refl) (λ b. refl))))))

  abbrev pub time_in : ℕ → PartialTime
  time_in n = record { hour = pair_at 11 s; minute = pair_at 14 s; second = pair_at 17 s; nanos = n }

  begins-time : Begins partial_time 8 11 11 s (onward (optional_secfrac s 19) (λ n. done (time_in n)) s)
  unfolding takes partial_time
  begins-time =
      begins-hour 11 16 s (λ h m. one_byte is_colon before time_second then λ x. optional_secfrac then λ n. done (record { hour = h; minute = m; second = x; nanos = n })) 8 refl (omega arith)
      (begins-then (λ _. time_second then λ x. optional_secfrac then λ n. done (record { hour = pair_at 11 s; minute = pair_at 14 s; second = x; nanos = n })) 3 (begins-byte is_colon 16 16 17 s refl (λ b. refl)) refl (omega arith)
      (begins-on (λ x. optional_secfrac then λ n. done (record { hour = pair_at 11 s; minute = pair_at 14 s; second = x; nanos = n })) (begins-pair 17 17 19 s refl (λ b. refl) (λ b. refl))))

  abbrev pub parts_in : ℕ → NumOffset → DateTime
  parts_in n o = record { date = date_in; time = time_in n; offset = o }

  abbrev full_by : PartialTime → Grammar FullTime
  full_by t = time_offset then λ o. done (record { time = t; offset = o })

  abbrev all_by : FullTime → Grammar DateTime
  all_by t = done (record { date = date_in; time = t.time; offset = t.offset })

  begins-all : Begins date_time 19 0 0 s (onward (onward (onward (optional_secfrac s 19) (λ n. done (time_in n)) s) full_by s) all_by s)
  unfolding takes date_time full_time
  begins-all =
      begins-then (λ d. one_byte is_t before full_time then λ t. done (record { date = d; time = t.time; offset = t.offset })) 19 begins-date refl (omega arith)
      (begins-then (λ _. full_time then all_by) 9 (begins-byte is_t 10 10 11 s refl (λ b. refl)) refl (omega arith)
      (begins-on all_by (begins-on full_by begins-time)))

  -- a byte at a fixed place that is wrong; else the fraction, the offset and the end

  pub place-halts : (first_wrong 19 0 0 s ≡ 19 → ⊥) → whole date_time s ≡ halts (first_wrong 19 0 0 s)
  place-halts other = rw (not_taken begins-all other)

  module _ (taken : first_wrong 19 0 0 s ≡ 19) where
    pub fraction-halts : {place : ℕ} → optional_secfrac s 19 ≡ halts place → whole date_time s ≡ halts place
    fraction-halts e = rw (all-taken begins-all taken, e)

    module _ {n at : ℕ} (fraction : optional_secfrac s 19 ≡ reads n at) where
      pub offset-halts : {place : ℕ} → time_offset s at ≡ halts place → whole date_time s ≡ halts place
      offset-halts e = rw (all-taken begins-all taken, fraction, e)

      module _ {o : NumOffset} {end : ℕ} (offset : time_offset s at ≡ reads o end) where
        pub rest-halts : (end ≡ length s → ⊥) → whole date_time s ≡ halts end
        rest-halts other = rw (all-taken begins-all taken, fraction, offset, ne_eqb end (length s) other)

        pub all_read : end ≡ length s → whole date_time s ≡ reads (parts_in n o) end
        all_read same = rw (all-taken begins-all taken, fraction, offset, eq-eqb end (length s) same)

-- an offset with a sign, from the place of the sign on

module _ (s : List ℕ) (at : ℕ) where
  abbrev pub shift_in : NumOffset
  shift_in = record { negative = eqb (get_or s at 0) minus; hour = pair_at (at + 1) s; minute = pair_at (at + 4) s }

  abbrev signed_by : ℕ → Grammar NumOffset
  signed_by sign = time_hour then λ h. one_byte is_colon before time_minute then λ m. done (record { negative = eqb sign minus; hour = h; minute = m })

  begins-shift : Begins (signed_by (get_or s at 0)) 5 11 (at + 1) s (reads shift_in (at + 6))
  begins-shift =
      let four : at + 1 + 3 ≡ at + 4 = omega arith in
      begins-hour (at + 1) (at + 6) s (λ h m. done (record { negative = eqb (get_or s at 0) minus; hour = h; minute = m })) 5 (omega arith) (omega arith)
      (rw four (begins-done shift_in 16 (at + 6) s))

  pub sign-halts : is_sign (get_or s at 0) ≡ false → time_numoffset s at ≡ halts at
  unfolding time_numoffset
  sign-halts e = rw e

  module _ (sign : is_sign (get_or s at 0) ≡ true) where
    behind-sign : time_numoffset s at ≡ signed_by (get_or s at 0) s (at + 1)
    unfolding time_numoffset
    behind-sign = rw (sign, add-one at)

    pub shift-halts : (first_wrong 5 11 (at + 1) s ≡ at + 6 → ⊥) → time_numoffset s at ≡ halts (first_wrong 5 11 (at + 1) s)
    shift-halts other = behind-sign ∙ not_taken begins-shift (λ e. other (omega arith))

    pub shift-read : first_wrong 5 11 (at + 1) s ≡ at + 6 → time_numoffset s at ≡ reads shift_in (at + 6)
    shift-read taken = behind-sign ∙ all-taken begins-shift (omega arith)

  pub z-read : is_z (get_or s at 0) ≡ true → time_offset s at ≡ reads zulu (at + 1)
  unfolding time_offset
  z-read e = rw (e, add-one at)

  pub no-z : is_z (get_or s at 0) ≡ false → time_offset s at ≡ time_numoffset s at
  unfolding time_offset
  no-z e = rw e

-- behind the end there is no sign, no Z and no point

module _ (s : List ℕ) (at : ℕ) (h : length s ≤ at) where
  pub no_sign : is_sign (get_or s at 0) ≡ false
  no_sign = rw (get_or-eq_default s 0 h)

  pub none-z : is_z (get_or s at 0) ≡ false
  none-z = rw (get_or-eq_default s 0 h)

  pub no-point : is_point (get_or s at 0) ≡ false
  no-point = rw (get_or-eq_default s 0 h)

-- the fraction

module _ (s : List ℕ) (at : ℕ) where
  pub none_read : is_point (get_or s at 0) ≡ false → optional_secfrac s at ≡ reads 0 at
  none_read e = rw e

  module _ (point : is_point (get_or s at 0) ≡ true) where
    behind-point : optional_secfrac s at ≡ onward (some_digits s (at + 1)) (λ ds. done (nanos_of ds)) s
    unfolding time_secfrac
    behind-point = rw (point, add-one at)

    no-digits : at + 1 + digit_run (drop (at + 1) s) ≡ at + 1 → digit_at (at + 1) s ≡ false
    no-digits e = by-test (digit_at (at + 1) s) (λ d. absurd (omega (arith, some-run s (at + 1) d))) (λ d. d)

    pub digits-halt : at + 1 + digit_run (drop (at + 1) s) ≡ at + 1 → optional_secfrac s at ≡ halts (at + 1)
    digits-halt e = behind-point ∙ rw (no-digits e)

    pub digits-read : (at + 1 + digit_run (drop (at + 1) s) ≡ at + 1 → ⊥) → optional_secfrac s at ≡ reads (weighted 9 (drop (at + 1) s)) (at + 1 + digit_run (drop (at + 1) s))
    digits-read e =
        by-test (digit_at (at + 1) s)
        (λ d. behind-point ∙ rw (d, nanos-weighed (drop (at + 1) s))) (λ d. absurd (e (no_run s (at + 1) d)))

-- the pairs of digits, where all bytes are taken

pub pair-taken : (n i at : ℕ) (s : List ℕ) → first_wrong n i at s ≡ at + n → (j place : ℕ) → place ≡ at + j → j + 1 < n
    → ((b : ℕ) → takes (i + j) b ≡ is_digit b) → ((b : ℕ) → takes (i + (j + 1)) b ≡ is_digit b)
    → (digit_at place s ≡ true) × (digit_at (place + 1) s ≡ true)
unfolding digit_at
pair-taken n i at s all j place there h first second =
    let next : at + j + 1 ≡ at + (j + 1) = omega arith in
    rw (there, next) (sym (first (get_or s (at + j) 0)) ∙ taken_at n i at s all j (omega arith), sym (second (get_or s (at + (j + 1)) 0)) ∙ taken_at n i at s all (j + 1) h)

pub pair_small : (at : ℕ) (s : List ℕ) → (digit_at at s ≡ true) × (digit_at (at + 1) s ≡ true) → pair_at at s < 100
unfolding digit_at
pair_small at s d = omega (arith, digit-bounds (get_or s at 0) d.0, digit-bounds (get_or s (at + 1) 0) d.1)

-- what the answers of the code stand for

abbrev pub fraction_back : Result (ℕ × ℕ) Halted → Ruled ℕ
fraction_back (Ok p) = reads p.0 p.1
fraction_back (Err h) = halts h.place

pub fraction-is : (x : Ruled ℕ) → fraction_back (fraction_by x) ≡ x
fraction-is (reads n at) = refl
fraction-is (halts at) = refl

abbrev pub zone_back : Result (Shift × ℕ) Halted → Ruled NumOffset
zone_back (Ok p) = reads (offset_of p.0) p.1
zone_back (Err h) = halts h.place

pub zone-is : (x : Ruled NumOffset) → zone_back (zone_by x) ≡ x
zone-is (reads o at) = refl
zone-is (halts at) = refl
