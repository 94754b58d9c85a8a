-- Where a rule of the grammar of stamps stops, be it behind what it read or at a byte that can't go on, is in the text or at its end.
use mathlib.Core.Bool.{Bool, false}
use mathlib.Core.List.{List, [], ◌∷◌}
use mathlib.Core.Path.{◌≡◌, refl}
use Prim.Native.Nat.{ℕ, zero, suc, ◌+◌, ◌-◌, ◌*◌, ◌≤◌}
use native.Mathlib.Omega.{arith}
use lib.Dec.{eqb}
use lib.ListN.{length, get_or, drop, length-drop}
use Rattle.meaning.specs.Bytes.{is_digit, digit_at}
use Rattle.meaning.specs.Reading.{digit_run}
use Rattle.meaning.specs.StampGrammar.{Ruled, reads, halts, Grammar, onward, one_byte, is_dash, is_colon, is_point, is_sign, is_t, is_z, digits_from, some_digits, time_secfrac, optional_secfrac, time_numoffset, time_offset, partial_time, full_date, full_time, date_time, ended, whole}
use Rattle.laws.proofs.Tests.{by-test, passes-there}

abbrev place_of : {A : Type 0} → Ruled A → ℕ
place_of (reads a at) = at
place_of (halts at) = at

run_short : (s : List ℕ) → digit_run s ≤ length s
unfolding digit_run
run_short [] = omega arith
run_short (b ∷ s) = by-test (is_digit b) (λ e. rw e (omega (arith, run_short s))) (λ e. rw e (omega arith))

module _ (s : List ℕ) where
  abbrev In : {A : Type 0} → Ruled A → Type 0
  In r = place_of r ≤ length s

  in_then : {A B : Type 0} (r : Ruled A) (next : A → Grammar B) → In r → ((a : A) (at : ℕ) → at ≤ length s → In (next a s at)) → In (onward r next s)
  in_then (reads a at) next h k = k a at h
  in_then (halts at) next h k = h

  -- what stands behind the end passes no test
  in-byte : (test : ℕ → Bool) (at : ℕ) → test 0 ≡ false → at ≤ length s → In (one_byte test s at)
  in-byte test at none h = by-test (test (get_or s at 0)) (λ e. rw e (omega (arith, passes-there test s at none e))) (λ e. rw e h)

  in-digits : (k n at : ℕ) → at ≤ length s → In (digits_from k n s at)
  unfolding digits_from
  in-digits zero n at h = h
  in-digits (suc k) n at h =
      in_then (one_byte is_digit s at) _ (in-byte is_digit at refl h) (λ b at₁ l. in-digits k (n * 10 + (b - 48)) at₁ l)

  in_some : (at : ℕ) → at ≤ length s → In (some_digits s at)
  unfolding digit_at
  in_some at h =
      by-test (digit_at at s) (λ e. rw e (omega (arith, run_short (drop at s), length-drop at s))) (λ e. rw e h)

  in-secfrac : (at : ℕ) → at ≤ length s → In (time_secfrac s at)
  unfolding time_secfrac
  in-secfrac at h =
      in_then (one_byte is_point s at) _ (in-byte is_point at refl h) (λ b at₁ l. in_then (some_digits s at₁) _ (in_some at₁ l) (λ ds at₂ m. m))

  in-fraction : (at : ℕ) → at ≤ length s → In (optional_secfrac s at)
  in-fraction at h = by-test (is_point (get_or s at 0)) (λ e. rw e (in-secfrac at h)) (λ e. rw e h)

  in_shift : (at : ℕ) → at ≤ length s → In (time_numoffset s at)
  unfolding time_numoffset
  in_shift at h =
      in_then (one_byte is_sign s at) _ (in-byte is_sign at refl h)
      (λ sign at₁ l. in_then (digits_from 2 0 s at₁) _ (in-digits 2 0 at₁ l)
      (λ hour at₂ m. in_then (one_byte is_colon s at₂) _ (in-byte is_colon at₂ refl m)
      (λ b at₃ n. in_then (digits_from 2 0 s at₃) _ (in-digits 2 0 at₃ n) (λ minute at₄ o. o))))

  in-offset : (at : ℕ) → at ≤ length s → In (time_offset s at)
  unfolding time_offset
  in-offset at h =
      by-test (is_z (get_or s at 0)) (λ e. rw e (omega (arith, passes-there is_z s at refl e))) (λ e. rw e (in_shift at h))

  in-time : (at : ℕ) → at ≤ length s → In (partial_time s at)
  unfolding partial_time
  in-time at h =
      in_then (digits_from 2 0 s at) _ (in-digits 2 0 at h)
      (λ hour at₁ l. in_then (one_byte is_colon s at₁) _ (in-byte is_colon at₁ refl l)
      (λ b at₂ m. in_then (digits_from 2 0 s at₂) _ (in-digits 2 0 at₂ m)
      (λ minute at₃ n. in_then (one_byte is_colon s at₃) _ (in-byte is_colon at₃ refl n)
      (λ c at₄ o. in_then (digits_from 2 0 s at₄) _ (in-digits 2 0 at₄ o)
      (λ second at₅ p. in_then (optional_secfrac s at₅) _ (in-fraction at₅ p) (λ nanos at₆ q. q))))))

  in-date : (at : ℕ) → at ≤ length s → In (full_date s at)
  unfolding full_date
  in-date at h =
      in_then (digits_from 4 0 s at) _ (in-digits 4 0 at h)
      (λ year at₁ l. in_then (one_byte is_dash s at₁) _ (in-byte is_dash at₁ refl l)
      (λ b at₂ m. in_then (digits_from 2 0 s at₂) _ (in-digits 2 0 at₂ m)
      (λ month at₃ n. in_then (one_byte is_dash s at₃) _ (in-byte is_dash at₃ refl n)
      (λ c at₄ o. in_then (digits_from 2 0 s at₄) _ (in-digits 2 0 at₄ o) (λ day at₅ p. p)))))

  in-full-time : (at : ℕ) → at ≤ length s → In (full_time s at)
  unfolding full_time
  in-full-time at h =
      in_then (partial_time s at) _ (in-time at h) (λ t at₁ l. in_then (time_offset s at₁) _ (in-offset at₁ l) (λ o at₂ m. m))

  in-date-time : (at : ℕ) → at ≤ length s → In (date_time s at)
  unfolding date_time
  in-date-time at h =
      in_then (full_date s at) _ (in-date at h)
      (λ d at₁ l. in_then (one_byte is_t s at₁) _ (in-byte is_t at₁ refl l)
      (λ b at₂ m. in_then (full_time s at₂) _ (in-full-time at₂ m) (λ t at₃ n. n)))

  in-ended : {A : Type 0} (r : Ruled A) → In r → In (ended s r)
  in-ended (reads a at) h = by-test (eqb at (length s)) (λ e. rw e h) (λ e. rw e h)
  in-ended (halts at) h = h

-- 25
pub halts-inside : (s : List ℕ) {place : ℕ} → whole date_time s ≡ halts place → place ≤ length s
halts-inside s e = rw e at (in-ended s (date_time s 0) (in-date-time s 0 (omega arith)))
