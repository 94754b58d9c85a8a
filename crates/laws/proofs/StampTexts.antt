-- The text of a stamp, read rule by rule: its digits at their places, its fraction, its offset and its end.
use mathlib.Core.Bool.{Bool, true, false}
use mathlib.Core.List.{List, [], ◌∷◌, ◌++◌}
use mathlib.Core.Path.{◌≡◌, refl, sym, ap, ◌∙◌}
use Prim.Native.Nat.{ℕ, suc, ◌+◌, ◌-◌, ◌*◌, ◌/◌, ◌%◌, ◌<◌}
use native.Mathlib.Nat.{add-zero}
use native.Mathlib.Omega.{arith}
use borrow.Author.Tests.{eq-eqb, eqb-true}
use lib.Dec.{eqb}
use lib.ListN.{length, get_or, take, drop, replicate}
use lib.Seq.{get_or-drop, take_at}
use Rattle.meaning.specs.Bytes.{when, is_digit, digit_at, digits, minus, plus}
use Rattle.meaning.specs.Reading.{digit_run}
use Rattle.meaning.specs.StampGrammar.{reads, is_point, is_z, is_sign, digits_from, nanos_of, time_secfrac, optional_secfrac, NumOffset, zulu, time_numoffset, time_offset, PartialTime, partial_time, full_date, full_time, DateTime, date_time, whole}
use Rattle.laws.proofs.Digits.{digit-yes, all_digits_lem, decimal-digits, length_digits, digit-in}
use Rattle.laws.proofs.Tests.{by-test}
use Rattle.laws.proofs.Years.{run-of-digits}

-- digits

a-digit : (n : ℕ) → is_digit (48 + n % 10) ≡ true
a-digit n = digit-yes (48 + n % 10) (omega arith) (omega arith)

module _ (s : List ℕ) (at n : ℕ) where
  two_at : n < 100 → get_or s at 0 ≡ 48 + n / 10 % 10 → get_or s (suc at) 0 ≡ 48 + n % 10 → digits_from 2 0 s at ≡ reads n (suc (suc at))
  unfolding digits_from
  two_at h a b =
      let v : (0 * 10 + (48 + n / 10 % 10 - 48)) * 10 + (48 + n % 10 - 48) ≡ n = omega arith in
      rw (a, a-digit (n / 10), b, a-digit n, v)

  four-at : n < 10000 → get_or s at 0 ≡ 48 + n / 10 / 10 / 10 % 10 → get_or s (suc at) 0 ≡ 48 + n / 10 / 10 % 10
      → get_or s (suc (suc at)) 0 ≡ 48 + n / 10 % 10 → get_or s (suc (suc (suc at))) 0 ≡ 48 + n % 10
      → digits_from 4 0 s at ≡ reads n (suc (suc (suc (suc at))))
  unfolding digits_from
  four-at h a b c d =
      let v : (((0 * 10 + (48 + n / 10 / 10 / 10 % 10 - 48)) * 10 + (48 + n / 10 / 10 % 10 - 48)) * 10 + (48 + n / 10 % 10 - 48)) * 10 + (48 + n % 10 - 48) ≡ n = omega arith in
      rw (a, a-digit (n / 10 / 10 / 10), b, a-digit (n / 10 / 10), c, a-digit (n / 10), d, a-digit n, v)

-- the bytes up to the fraction

module _ (y mo d h mi se : ℕ) where
  unfoldable pub front : List ℕ → List ℕ
  front rest =
      digits 4 y ++ 45 ∷ (digits 2 mo ++ 45 ∷ (digits 2 d ++ 84 ∷ (digits 2 h ++ 58 ∷ (digits 2 mi ++ 58 ∷ (digits 2 se ++ rest)))))

  abbrev time_by : ℕ → PartialTime
  time_by n = record { hour = h; minute = mi; second = se; nanos = n }

  module _ (hy : y < 10000) (hmo : mo < 100) (hd : d < 100) (hh : h < 100) (hmi : mi < 100) (hse : se < 100) (rest : List ℕ) where
    front_reads : {n at end : ℕ} {o : NumOffset} → optional_secfrac (front rest) 19 ≡ reads n at → time_offset (front rest) at ≡ reads o end
        → date_time (front rest) 0 ≡ reads (record { date = record { year = y; month = mo; day = d }; time = time_by n; offset = o }) end
    unfolding digits front date_time full_date full_time partial_time
    front_reads fraction offset =
        let s = front rest in
        rw (four-at s 0 y hy refl refl refl refl, two_at s 5 mo hmo refl refl, two_at s 8 d hd refl refl, two_at s 11 h hh refl refl, two_at s 14 mi hmi refl refl, two_at s 17 se hse refl refl, fraction, offset)

-- the fraction

nine : (q : ℕ) → q < 1000000000 → nanos_of (digits 9 q) ≡ q
unfolding nanos_of
nine q h = rw (take_at (digits 9 q) (replicate 9 48) 9 (length_digits 9 q)) (decimal-digits 9 q h)

module _ (s : List ℕ) (at : ℕ) where
  no_fraction : (z : List ℕ) → drop at s ≡ z → is_point (get_or z 0 0) ≡ false → optional_secfrac s at ≡ reads 0 at
  no_fraction z rest e =
      let first : get_or s at 0 ≡ get_or z 0 0 = ap (λ (k : ℕ). get_or s k 0) (sym (add-zero at)) ∙ sym (get_or-drop at s 0 0) ∙ rw rest in
      rw (first, e)

  nine-read : (q : ℕ) (z : List ℕ) → q < 1000000000 → get_or s at 0 ≡ 46 → drop (suc at) s ≡ digits 9 q ++ z → digit_at 0 z ≡ false
      → optional_secfrac s at ≡ reads q (suc at + 9)
  unfolding time_secfrac digit_at
  nine-read q z h point rest end =
      let first : get_or s (suc at) 0 ≡ get_or (digits 9 q ++ z) 0 0 = ap (λ (k : ℕ). get_or s k 0) (sym (add-zero (suc at))) ∙ sym (get_or-drop (suc at) s 0 0) ∙ rw rest in
      let digit : is_digit (get_or (digits 9 q ++ z) 0 0) ≡ true = digit-in (digits 9 q) z (all_digits_lem 9 q) 0 (omega (arith, length_digits 9 q)) in
      let run : digit_run (digits 9 q ++ z) ≡ 9 = run-of-digits (digits 9 q) z (all_digits_lem 9 q) end ∙ length_digits 9 q in
      let taken : take 9 (digits 9 q ++ z) ≡ digits 9 q = take_at (digits 9 q) z 9 (length_digits 9 q) in
      rw (point, first, digit, rest, run, taken, nine q h)

-- the offset

no-z : (negative : Bool) → is_z (when negative minus plus) ≡ false
no-z true = refl
no-z false = refl

a-sign : (negative : Bool) → is_sign (when negative minus plus) ≡ true
a-sign true = refl
a-sign false = refl

is-minus : (negative : Bool) → eqb (when negative minus plus) minus ≡ negative
is-minus true = refl
is-minus false = refl

module _ (s : List ℕ) (at : ℕ) (z : List ℕ) (rest : drop at s ≡ z) where
  byte_at : (k place : ℕ) → place ≡ at + k → get_or s place 0 ≡ get_or z k 0
  byte_at k place e = ap (λ (p : ℕ). get_or s p 0) e ∙ sym (get_or-drop at s k 0) ∙ rw rest

  zulu-read : get_or z 0 0 ≡ 90 → time_offset s at ≡ reads zulu (suc at)
  unfolding time_offset
  zulu-read e = rw (byte_at 0 at (sym (add-zero at)) ∙ e)

  shift-read : (negative : Bool) (h m : ℕ) → h < 100 → m < 100 → get_or z 0 0 ≡ when negative minus plus → get_or z 1 0 ≡ 48 + h / 10 % 10
      → get_or z 2 0 ≡ 48 + h % 10 → get_or z 3 0 ≡ 58 → get_or z 4 0 ≡ 48 + m / 10 % 10 → get_or z 5 0 ≡ 48 + m % 10
      → time_offset s at ≡ reads (record { negative = negative; hour = h; minute = m }) (suc (suc (suc (suc (suc (suc at))))))
  unfolding time_offset time_numoffset
  shift-read negative h m hh hm a b c d e f =
      rw (
        byte_at 0 at (sym (add-zero at)) ∙ a,
        no-z negative,
        a-sign negative,
        two_at s (suc at) h hh (byte_at 1 (suc at) (omega arith) ∙ b) (byte_at 2 (suc (suc at)) (omega arith) ∙ c),
        byte_at 3 (suc (suc (suc at))) (omega arith) ∙ d,
        two_at s (suc (suc (suc (suc at)))) m hm (byte_at 4 (suc (suc (suc (suc at)))) (omega arith) ∙ e) (byte_at 5 (suc (suc (suc (suc (suc at))))) (omega arith) ∙ f),
        is-minus negative,
      )

-- the whole text: with a fraction or not, and an offset that is read

pub record ReadsAs (z : List ℕ) (o : NumOffset) : Type 0 where
  pub offset : (s : List ℕ) (at : ℕ) → drop at s ≡ z → time_offset s at ≡ reads o (at + length z)
  pub no-point : is_point (get_or z 0 0) ≡ false
  pub no_digit : digit_at 0 z ≡ false

pub z-reads : ReadsAs (90 ∷ []) zulu
unfolding digit_at
z-reads = record { offset = λ s at e. zulu-read s at (90 ∷ []) e refl ∙ ap (λ (k : ℕ). reads zulu k) (omega arith); no-point = refl; no_digit = refl }

abbrev pub shift_bytes : Bool → ℕ → ℕ → List ℕ
shift_bytes negative h m = when negative minus plus ∷ (48 + h / 10 % 10) ∷ (48 + h % 10) ∷ 58 ∷ (48 + m / 10 % 10) ∷ (48 + m % 10) ∷ []

pub shift-reads : (negative : Bool) (h m : ℕ) → h < 100 → m < 100 → ReadsAs (shift_bytes negative h m) (record { negative = negative; hour = h; minute = m })
unfolding digit_at
shift-reads negative h m hh hm =
    record {
      offset =
          λ s at e.
          let place : suc (suc (suc (suc (suc (suc at))))) ≡ at + 6 = omega arith in
          shift-read s at (shift_bytes negative h m) e negative h m hh hm refl refl refl refl refl refl ∙ rw place;
      no-point = by-test negative (λ e. rw e) (λ e. rw e);
      no_digit = by-test negative (λ e. rw e) (λ e. rw e);
    }

abbrev pub fraction_bytes : ℕ → List ℕ
fraction_bytes q = when (eqb q 0) [] (46 ∷ digits 9 q)

abbrev pub date_time_by : ℕ → ℕ → ℕ → ℕ → ℕ → ℕ → ℕ → NumOffset → DateTime
date_time_by y mo d h mi se q o =
    record { date = record { year = y; month = mo; day = d }; time = record { hour = h; minute = mi; second = se; nanos = q }; offset = o }

module _ (y mo d h mi se q : ℕ) (hy : y < 10000) (hmo : mo < 100) (hd : d < 100) (hh : h < 100) (hmi : mi < 100) (hse : se < 100) (hq : q < 1000000000) (z : List ℕ) (o : NumOffset) (r : ReadsAs z o) where
  whole-second : q ≡ 0 → whole date_time (front y mo d h mi se z) ≡ reads (date_time_by y mo d h mi se q o) (19 + length z)
  unfolding front digits
  whole-second e =
      let s = front y mo d h mi se z in
      let end : length s ≡ 19 + length z = omega arith in
      rw (front_reads y mo d h mi se hy hmo hd hh hmi hse z (no_fraction s 19 z refl r.no-point) (r.offset s 19 refl), end, eq-eqb (19 + length z) (19 + length z) refl, e)

  with-fraction : whole date_time (front y mo d h mi se (46 ∷ digits 9 q ++ z)) ≡ reads (date_time_by y mo d h mi se q o) (29 + length z)
  unfolding front digits
  with-fraction =
      let s = front y mo d h mi se (46 ∷ digits 9 q ++ z) in
      let end : length s ≡ 29 + length z = omega arith in
      rw (front_reads y mo d h mi se hy hmo hd hh hmi hse (46 ∷ digits 9 q ++ z) (nine-read s 19 q z hq refl refl r.no_digit) (r.offset s 29 refl), end, eq-eqb (29 + length z) (29 + length z) refl)

  pub text-read : (end : ℕ) × (whole date_time (front y mo d h mi se (fraction_bytes q ++ z)) ≡ reads (date_time_by y mo d h mi se q o) end)
  text-read =
      by-test (eqb q 0)
      (λ e. (19 + length z, rw e (whole-second (eqb-true q 0 e))))
      (λ e. (29 + length z, rw e with-fraction))
