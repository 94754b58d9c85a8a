-- RFC 3339 stamps, by samples: those of the RFC, what is refused, in its order and with its places, and what is written.
use Rattle.std.specs.Prelude.{Ok, Err}
use mathlib.Core.Bool.{Bool, true, false}
use mathlib.Core.List.{List, [], ◌∷◌}
use mathlib.Core.Path.{refl}
use Prim.Native.Nat.{ℕ}
use Prim.Native.String.{String}
use lib.IntN.{ℤ, pos, negsuc}
use lib.ListN.{replicate}
use lib.Seq.{sets}
use Rattle.meaning.specs.Answers.{byte_check}
use Rattle.meaning.specs.Bytes.{bytes, width_in, num}
use Rattle.meaning.specs.Calendar.{leap, days_on, new_year, is_date, date_number}
use Rattle.meaning.specs.Days.{day_check}
use Rattle.meaning.specs.StampGrammar.{date_time}
use Rattle.meaning.specs.Stamps.{read_stamp, write_stamp, stamp_output}
use Rattle.meaning.specs.Writing.{offset_digits, all_zero, is_minus}
use Rattle.meaning.specs.declared.Refusal.{Refusal}
use Rattle.meaning.specs.declared.Refusal.TheVariants.{FieldRange, NoRoom, NotStamp, StampRange, LeapSecond, StampYear, StampOffset, NoSuchDay}
use Rattle.meaning.specs.declared.Stamp.{Stamp}
use Rattle.meaning.specs.Results.{Stamped, Wrote}
use Rattle.meaning.proofs.Tables.{Sample, ◌↦'◌, Answered}

abbrev stamp : ℤ → ℕ → ℕ → ℕ → ℤ → Bool → Stamp
stamp y m d n o u = record { year = y; month = m; day = d; nanos = n; offset = o; unknown = u }

abbrev is : ℕ → ℕ → ℕ → ℕ → ℤ → Bool → Stamped
is y m d n o u = Ok (stamp (pos y) m d n o u)

abbrev no : Refusal → Stamped
no why = Err why

abbrev read_text : String → Stamped
read_text s = read_stamp (bytes s)

pub readings : List (Sample String Stamped)
readings =
    "1985-04-12T23:20:50.52Z" ↦' is 1985 4 12 84050520000000 (pos 0) false
    ∷ "1996-12-19T16:39:57-08:00" ↦' is 1996 12 19 59997000000000 (negsuc 28799) false
    ∷ "1937-01-01T12:00:27.87+00:20" ↦' is 1937 1 1 43227870000000 (pos 1200) false
    ∷ "2025-12-03t07:05:09z" ↦' is 2025 12 3 25509000000000 (pos 0) false
    ∷ "2025-12-03T07:05:09.1234567899Z" ↦' is 2025 12 3 25509123456789 (pos 0) false
    ∷ "2025-12-03T07:05:09-00:00" ↦' is 2025 12 3 25509000000000 (pos 0) true
    ∷ "2025-12-03T07:05:09+00:00" ↦' is 2025 12 3 25509000000000 (pos 0) false
    ∷ "9999-12-31T23:59:59.999999999-23:59" ↦' is 9999 12 31 86399999999999 (negsuc 86339) false
    ∷ "" ↦' no (NotStamp 0)
    ∷ "2025-13-03" ↦' no (NotStamp 10)
    ∷ "2025-12-03 07:05:09Z" ↦' no (NotStamp 10)
    ∷ "2025-12-03T07:05:09,5Z" ↦' no (NotStamp 19)
    ∷ "2025-12-03T07:05:09.Z" ↦' no (NotStamp 20)
    ∷ "2025-12-03T07:05:09.5" ↦' no (NotStamp 21)
    ∷ "2025-12-03T07:05:09+0530" ↦' no (NotStamp 22)
    ∷ "2025-12-03T07:05:09Z " ↦' no (NotStamp 20)
    ∷ "+025-12-03T07:05:09Z" ↦' no (NotStamp 0)
    ∷ "0000-13-30T00:00:60Z" ↦' no StampRange
    ∷ "2025-12-03T24:00:00Z" ↦' no StampRange
    ∷ "2025-12-32T00:00:00Z" ↦' no StampRange
    ∷ "2025-12-03T00:00:61Z" ↦' no StampRange
    ∷ "2025-12-03T00:00:00+24:00" ↦' no StampRange
    ∷ "0000-02-30T00:00:60Z" ↦' no LeapSecond
    ∷ "1990-12-31T23:59:60Z" ↦' no LeapSecond
    ∷ "0000-02-30T00:00:00Z" ↦' no StampYear
    ∷ "2025-02-30T00:00:00Z" ↦' no NoSuchDay
    ∷ "2025-02-29T00:00:00Z" ↦' no NoSuchDay
    ∷ []

pub read-samples : Answered read_text readings
unfolding readings read_stamp byte_check bytes date_time day_check is_date leap days_on new_year date_number
read-samples = refl

-- writing, into 36 zeros or fewer

pub record Question : Type 0 where
  pub stamp : Stamp
  pub room : ℕ

pub data Answer : Type 0 where
  wrote' : Wrote → List ℕ → Answer

abbrev into : Stamp → ℕ → Question
into t room = record { stamp = t; room = room }

abbrev asked : Question → Answer
asked q = wrote' (write_stamp q.stamp (replicate q.room 0)) (stamp_output q.stamp (replicate q.room 0))

abbrev gives : String → ℕ → Answer
gives t n = wrote' (Ok n) (sets (replicate 36 0) 0 (bytes t))

abbrev refuses : Refusal → ℕ → Answer
refuses why room = wrote' (Err why) (replicate room 0)

-- the third of December, at five and nine past seven
abbrev at : ℤ → ℕ → ℤ → Bool → Stamp
at year nanos offset unknown = stamp year 12 3 nanos offset unknown

pub writings : List (Sample Question Answer)
writings =
    into (at (pos 2025) 25509000000000 (pos 0) false) 36 ↦' gives "2025-12-03T07:05:09Z" 20
    ∷ into (at (pos 2025) 25509000000000 (pos 0) true) 36 ↦' gives "2025-12-03T07:05:09-00:00" 25
    ∷ into (at (pos 2025) 25509000120000 (pos 19800) false) 36 ↦' gives "2025-12-03T07:05:09.000120000+05:30" 35
    ∷ into (at (pos 7) 25509000000000 (negsuc 59) false) 36 ↦' gives "0007-12-03T07:05:09-00:01" 25
    ∷ into (at (pos 0) 25509000000000 (pos 0) false) 36 ↦' refuses (FieldRange 1) 36
    ∷ into (at (pos 2025) 86400000000000 (pos 0) false) 36 ↦' refuses (FieldRange 7) 36
    ∷ into (at (pos 2025) 25509000000000 (pos 86400) false) 36 ↦' refuses (FieldRange 8) 36
    ∷ into (at (negsuc 0) 25509000000000 (pos 0) false) 36 ↦' refuses StampYear 36
    ∷ into (at (pos 10000) 25509000000000 (pos 0) false) 36 ↦' refuses StampYear 36
    ∷ into (stamp (pos 2025) 2 29 0 (pos 30) false) 36 ↦' refuses NoSuchDay 36
    ∷ into (at (pos 2025) 25509000000000 (pos 30) false) 3 ↦' refuses StampOffset 3
    ∷ into (at (pos 2025) 25509000000000 (pos 60) true) 3 ↦' refuses StampOffset 3
    ∷ into (at (pos 2025) 25509000000000 (pos 0) false) 19 ↦' refuses (NoRoom 20) 19
    ∷ []

pub write-samples : Answered asked writings
unfolding writings write_stamp stamp_output bytes width_in num day_check is_date leap days_on new_year date_number offset_digits all_zero is_minus
write-samples = refl
