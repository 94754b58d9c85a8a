-- Request [10], RFC 3339, section 5.6: the grammar of date-time, rule by rule, by the names that it has there. A rule is given a text and a
-- place, and gives what it read and the place behind it; or the place of the first byte that can't go on, which is the text's length
-- where it ends too soon. What the numbers may be is in Stamps.
use Rattle.std.specs.Prelude.{Bool, true, false, List, ◌++◌, ℕ, zero, suc, ◌+◌, ◌*◌, ◌-◌, eqb, length, get_or, take, drop, replicate}
use Prim.Native.Char.{code}
use Rattle.meaning.specs.Bytes.{when, is_digit, digit_at, plus, minus, colon}
use Rattle.meaning.specs.Numerals.{decimal}
use Rattle.meaning.specs.Reading.{digit_run}

pub data Ruled (A : Type 0) : Type 0 where
  reads : A → ℕ → Ruled A  -- what was read, and the place behind it
  halts : ℕ → Ruled A  -- where it can't go on

abbrev pub Grammar : Type 0 → Type 0
Grammar A = List ℕ → ℕ → Ruled A

abbrev pub onward : {A B : Type 0} → Ruled A → (A → Grammar B) → List ℕ → Ruled B
onward (reads a at) next s = next a s at
onward (halts at) next s = halts at

-- one rule behind another, with what that one read or without it
abbrev pub ◌then◌ : {A B : Type 0} → Grammar A → (A → Grammar B) → Grammar B
◌then◌ first next s at = onward (first s at) next s

abbrev pub ◌before◌ : {A B : Type 0} → Grammar A → Grammar B → Grammar B
◌before◌ first next = first then (λ _. next)

infixr 20 ◌then◌
infixr 20 ◌before◌
abbrev pub done : {A : Type 0} → A → Grammar A
done a s at = reads a at

-- a byte that passes a test; behind the end stands 0, which passes none here
abbrev pub one_byte : (ℕ → Bool) → Grammar ℕ
one_byte test s at = when (test (get_or s at 0)) (reads (get_or s at 0) (suc at)) (halts at)

abbrev pub is_dash : ℕ → Bool
is_dash b = eqb b minus

abbrev pub is_colon : ℕ → Bool
is_colon b = eqb b colon

abbrev pub is_point : ℕ → Bool
is_point b = eqb b (code ".")

abbrev pub is_sign : ℕ → Bool
is_sign b = when (eqb b plus) true (eqb b minus)

-- "T" and "Z" may be lower case
abbrev pub is_t : ℕ → Bool
is_t b = when (eqb b (code "T")) true (eqb b (code "t"))

abbrev pub is_z : ℕ → Bool
is_z b = when (eqb b (code "Z")) true (eqb b (code "z"))

-- so many DIGITs, as the number that they stand for, behind those that gave n
unfoldable pub digits_from : ℕ → ℕ → Grammar ℕ
digits_from zero n = done n
digits_from (suc k) n = one_byte is_digit then λ b. digits_from k (n * 10 + (b - code "0"))

-- 1*DIGIT, as many as follow
abbrev pub some_digits : Grammar (List ℕ)
some_digits s at = when (digit_at at s) (reads (take (digit_run (drop at s)) (drop at s)) (at + digit_run (drop at s))) (halts at)

-- date-fullyear = 4DIGIT
abbrev pub date_fullyear : Grammar ℕ
date_fullyear = digits_from 4 0

-- date-month = 2DIGIT, and so on
abbrev pub date_month : Grammar ℕ
date_month = digits_from 2 0

abbrev pub date_mday : Grammar ℕ
date_mday = digits_from 2 0

abbrev pub time_hour : Grammar ℕ
time_hour = digits_from 2 0

abbrev pub time_minute : Grammar ℕ
time_minute = digits_from 2 0

abbrev pub time_second : Grammar ℕ
time_second = digits_from 2 0

-- the nanoseconds of a fraction: digits past nine are dropped, fewer are filled up with zeros
unfoldable pub nanos_of : List ℕ → ℕ
unfolding decimal
nanos_of ds = decimal 0 (take 9 (ds ++ replicate 9 (code "0")))

-- time-secfrac = "." 1*DIGIT, which may be missing
unfoldable pub time_secfrac : Grammar ℕ
unfolding digit_at digit_run nanos_of
time_secfrac = one_byte is_point before some_digits then λ ds. done (nanos_of ds)

abbrev pub optional_secfrac : Grammar ℕ
optional_secfrac s at = when (is_point (get_or s at 0)) (time_secfrac s at) (reads 0 at)

pub record NumOffset : Type 0 where
  pub negative : Bool
  pub hour : ℕ
  pub minute : ℕ

-- time-numoffset = ("+" / "-") time-hour ":" time-minute
unfoldable pub time_numoffset : Grammar NumOffset
unfolding digits_from
time_numoffset =
    one_byte is_sign then λ sign. time_hour then λ h. one_byte is_colon before time_minute then λ m. done (record { negative = eqb sign minus; hour = h; minute = m })

-- time-offset = "Z" / time-numoffset
abbrev pub zulu : NumOffset
zulu = record { negative = false; hour = 0; minute = 0 }

unfoldable pub time_offset : Grammar NumOffset
unfolding time_numoffset
time_offset s at = when (is_z (get_or s at 0)) (reads zulu (suc at)) (time_numoffset s at)

pub record PartialTime : Type 0 where
  pub hour : ℕ
  pub minute : ℕ
  pub second : ℕ
  pub nanos : ℕ

-- partial-time = time-hour ":" time-minute ":" time-second [time-secfrac]
unfoldable pub partial_time : Grammar PartialTime
unfolding digits_from time_secfrac
partial_time =
    time_hour then λ h. one_byte is_colon before time_minute then λ m. one_byte is_colon before time_second then λ s. optional_secfrac then λ n. done (record { hour = h; minute = m; second = s; nanos = n })

pub record FullDate : Type 0 where
  pub year : ℕ
  pub month : ℕ
  pub day : ℕ

-- full-date = date-fullyear "-" date-month "-" date-mday
unfoldable pub full_date : Grammar FullDate
unfolding digits_from
full_date =
    date_fullyear then λ y. one_byte is_dash before date_month then λ m. one_byte is_dash before date_mday then λ d. done (record { year = y; month = m; day = d })

pub record FullTime : Type 0 where
  pub time : PartialTime
  pub offset : NumOffset

-- full-time = partial-time time-offset
unfoldable pub full_time : Grammar FullTime
unfolding partial_time time_offset
full_time = partial_time then λ t. time_offset then λ o. done (record { time = t; offset = o })

pub record DateTime : Type 0 where
  pub date : FullDate
  pub time : PartialTime
  pub offset : NumOffset

-- date-time = full-date "T" full-time
unfoldable pub date_time : Grammar DateTime
unfolding full_date full_time
date_time = full_date then λ d. one_byte is_t before full_time then λ t. done (record { date = d; time = t.time; offset = t.offset })

-- a rule that reads the whole text, with no rest
abbrev pub ended : {A : Type 0} → List ℕ → Ruled A → Ruled A
ended s (reads a at) = when (eqb at (length s)) (reads a at) (halts at)
ended s (halts at) = halts at

abbrev pub whole : {A : Type 0} → Grammar A → List ℕ → Ruled A
whole rule s = ended s (rule s 0)
