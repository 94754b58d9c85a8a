-- Laws of the grammar of stamps. Whatever text was read, the year has four digits and the fraction is less than a second.
use mathlib.Core.Bool.{true}
use mathlib.Core.List.{List, [], ◌∷◌, ◌++◌}
use mathlib.Core.Path.{◌≡◌, refl, ◌∙◌}
use Prim.Native.Nat.{ℕ, zero, suc, ◌+◌, ◌-◌, ◌*◌, ◌^◌, ◌<◌}
use native.Mathlib.Nat.{mul_assoc, mul_comm, pow-suc}
use native.Mathlib.Omega.{arith}
use lib.Dec.{eqb}
use lib.ListN.{length, get_or, take, drop, replicate, length-take, length-append}
use Rattle.meaning.specs.Bytes.{is_digit, digit_at}
use Rattle.meaning.specs.Numerals.{all_digits, decimal}
use Rattle.meaning.specs.Reading.{digit_run}
use Rattle.meaning.specs.StampGrammar.{Ruled, reads, halts, Grammar, onward, one_byte, is_dash, is_colon, is_point, is_t, digits_from, date_fullyear, date_month, date_mday, time_hour, time_minute, time_second, nanos_of, time_secfrac, optional_secfrac, time_offset, PartialTime, partial_time, FullDate, full_date, FullTime, full_time, DateTime, date_time, ended, whole}
use Rattle.laws.proofs.Digits.{digit-bounds}
use Rattle.laws.proofs.Tests.{by-test, both_true, both-are}

-- what a rule reads has a property

abbrev pub Gives : {A : Type 0} → (A → Type 0) → Ruled A → Type 0
Gives P (reads a at) = P a
Gives P (halts at) = Unit

gives_then : {A B : Type 0} (P : A → Type 0) (Q : B → Type 0) (r : Ruled A) (next : A → Grammar B) (s : List ℕ)
    → Gives P r → ((a : A) (at : ℕ) → P a → Gives Q (next a s at)) → Gives Q (onward r next s)
gives_then P Q (reads a at) next s h k = k a at h
gives_then P Q (halts at) next s h k = tt

abbrev Any : {A : Type 0} → A → Type 0
Any a = Unit

gives-any : {A : Type 0} (r : Ruled A) → Gives Any r
gives-any (reads a at) = tt
gives-any (halts at) = tt

-- behind a rule that does not matter
gives-on : {A B : Type 0} (Q : B → Type 0) (r : Ruled A) (next : A → Grammar B) (s : List ℕ) → ((a : A) (at : ℕ) → Gives Q (next a s at)) → Gives Q (onward r next s)
gives-on Q r next s k = gives_then Any Q r next s (gives-any r) (λ a at h. k a at)

-- numbers of so many digits

tenfold : (m k : ℕ) → m * 10 * 10 ^ k ≡ m * 10 ^ suc k
tenfold m k = rw (pow-suc 10 k, mul_assoc m 10 (10 ^ k), mul_comm 10 (10 ^ k))

next-digit : (n m b : ℕ) → n < m → is_digit b ≡ true → n * 10 + (b - 48) < m * 10
next-digit n m b h e = omega (arith, digit-bounds b e)

digits-small : (k n m : ℕ) (s : List ℕ) (at : ℕ) → n < m → Gives (λ (v : ℕ). v < m * 10 ^ k) (digits_from k n s at)
unfolding digits_from
digits-small zero n m s at h = omega arith
digits-small (suc k) n m s at h =
    by-test (is_digit (get_or s at 0))
    (λ e. rw (e, ← tenfold m k) (digits-small k (n * 10 + (get_or s at 0 - 48)) (m * 10) s (suc at) (next-digit n m (get_or s at 0) h e)))
    (λ e. rw e tt)

-- the fraction

decimal-small : (n m : ℕ) (s : List ℕ) → n < m → all_digits s ≡ true → decimal n s < m * 10 ^ length s
unfolding decimal all_digits
decimal-small n m [] h e = omega arith
decimal-small n m (b ∷ s) h e =
    let t = both_true (is_digit b) (all_digits s) e in
    rw (← tenfold m (length s)) (decimal-small (n * 10 + (b - 48)) (m * 10) s (next-digit n m b h t.0) t.1)

run-digits : (s : List ℕ) → all_digits (take (digit_run s) s) ≡ true
unfolding all_digits digit_run
run-digits [] = refl
run-digits (b ∷ s) = by-test (is_digit b) (λ e. rw e (both-are (is_digit b) (all_digits (take (digit_run s) s)) e (run-digits s))) (λ e. rw e)

all-taken : (k : ℕ) (s : List ℕ) → all_digits s ≡ true → all_digits (take k s) ≡ true
unfolding all_digits
all-taken zero s h = refl
all-taken (suc k) [] h = refl
all-taken (suc k) (b ∷ s) h =
    let t = both_true (is_digit b) (all_digits s) h in
    both-are (is_digit b) (all_digits (take k s)) t.0 (all-taken k s t.1)

all-joined : (s r : List ℕ) → all_digits s ≡ true → all_digits r ≡ true → all_digits (s ++ r) ≡ true
unfolding all_digits
all-joined [] r h k = k
all-joined (b ∷ s) r h k =
    let t = both_true (is_digit b) (all_digits s) h in
    both-are (is_digit b) (all_digits (s ++ r)) t.0 (all-joined s r t.1 k)

nanos-small : (ds : List ℕ) → all_digits ds ≡ true → nanos_of ds < 1000000000
unfolding nanos_of all_digits
nanos-small ds h =
    let nine = take 9 (ds ++ replicate 9 48) in
    let count : length nine ≡ 9 = length-take 9 (ds ++ replicate 9 48) ∙ omega (arith, length-append ds (replicate 9 48)) in
    let below = decimal-small 0 1 nine (omega arith) (all-taken 9 (ds ++ replicate 9 48) (all-joined ds (replicate 9 48) h refl)) in
    rw count at below

module _ (s : List ℕ) where
  fraction-small : (at : ℕ) → Gives (λ (n : ℕ). n < 1000000000) (optional_secfrac s at)
  unfolding time_secfrac
  fraction-small at =
      by-test (is_point (get_or s at 0))
      (λ e.
      rw e
      (by-test (digit_at (suc at) s)
      (λ d. rw d (nanos-small (take (digit_run (drop (suc at) s)) (drop (suc at) s)) (run-digits (drop (suc at) s)))) (λ d. rw d tt)))
      (λ e. rw e (omega arith))

  time-small : (at : ℕ) → Gives (λ (t : PartialTime). t.nanos < 1000000000) (partial_time s at)
  unfolding partial_time
  time-small at =
      gives-on _ (time_hour s at) _ s
      (λ h at₁. gives-on _ (one_byte is_colon s at₁) _ s
      (λ _ at₂. gives-on _ (time_minute s at₂) _ s
      (λ m at₃. gives-on _ (one_byte is_colon s at₃) _ s
      (λ _ at₄. gives-on _ (time_second s at₄) _ s
      (λ x at₅. gives_then (λ (n : ℕ). n < 1000000000) _ (optional_secfrac s at₅) _ s (fraction-small at₅) (λ n at₆ k. k))))))

  date-small : (at : ℕ) → Gives (λ (d : FullDate). d.year < 10000) (full_date s at)
  unfolding full_date
  date-small at =
      gives_then (λ (y : ℕ). y < 10000) _ (date_fullyear s at) _ s (digits-small 4 0 1 s at (omega arith))
      (λ y at₁ k. gives-on _ (one_byte is_dash s at₁) _ s
      (λ _ at₂. gives-on _ (date_month s at₂) _ s
      (λ m at₃. gives-on _ (one_byte is_dash s at₃) _ s
      (λ _ at₄. gives-on _ (date_mday s at₄) _ s (λ d at₅. k)))))

-- "date-time": four digits of a year, and less than a second of a fraction
pub record Small (t : DateTime) : Type 0 where
  pub year : t.date.year < 10000
  pub nanos : t.time.nanos < 1000000000

module _ (s : List ℕ) where
  full-time-small : (at : ℕ) → Gives (λ (t : FullTime). t.time.nanos < 1000000000) (full_time s at)
  unfolding full_time
  full-time-small at =
      gives_then (λ (t : PartialTime). t.nanos < 1000000000) _ (partial_time s at) _ s (time-small s at)
      (λ t at₁ k. gives-on _ (time_offset s at₁) _ s (λ o at₂. k))

  date-time-small : (at : ℕ) → Gives Small (date_time s at)
  unfolding date_time
  date-time-small at =
      gives_then (λ (d : FullDate). d.year < 10000) _ (full_date s at) _ s (date-small s at)
      (λ d at₁ y. gives-on _ (one_byte is_t s at₁) _ s
      (λ _ at₂. gives_then (λ (t : FullTime). t.time.nanos < 1000000000) _ (full_time s at₂) _ s (full-time-small at₂)
      (λ t at₃ n. record { year = y; nanos = n })))

gives-ended : {A : Type 0} (P : A → Type 0) (s : List ℕ) (r : Ruled A) → Gives P r → Gives P (ended s r)
gives-ended P s (reads a at) h = by-test (eqb at (length s)) (λ e. rw e h) (λ e. rw e tt)
gives-ended P s (halts at) h = tt

pub read_small : (s : List ℕ) (t : DateTime) (at : ℕ) → whole date_time s ≡ reads t at → Small t
read_small s t at e = rw e at (gives-ended Small s (date_time s 0) (date-time-small s 0))
