-- Request [10], RFC 3339 stamps: what a date-time that was read may be, and the record that it stands for; and the text of a record. The
-- grammar is in StampGrammar.
use Rattle.std.specs.Prelude.{Bool, true, not, List, [], ◌∷◌, ◌++◌, ℕ, ◌+◌, ◌*◌, eqb, leb, ℤ, pos, nat_abs, length, Ok, Err}
use Prim.Native.Char.{code}
use Rattle.meaning.specs.Answers.{◌else◌, refuse_unless, within, text_check, fields_check, room_check}
use Rattle.meaning.specs.Bytes.{when, both, bytes, num, minus, colon}
use Rattle.meaning.specs.Calendar.{divides}
use Rattle.meaning.specs.Days.{day_check}
use Rattle.meaning.specs.Numerals.{integer}
use Rattle.meaning.specs.StampGrammar.{Ruled, reads, halts, DateTime, PartialTime, NumOffset, date_time, whole}
use Rattle.meaning.specs.UnitSizes.{nanos_per_second, seconds_per_hour, seconds_per_minute}
use Rattle.meaning.specs.Whole.{wrote_by, output_by}
use Rattle.meaning.specs.Writing.{is_negative, quantity_of, offset_text, zone_text}
use Rattle.meaning.specs.Results.{Checked, Stamped, Wrote}
use Rattle.meaning.specs.declared.Fields.{Fields}
use Rattle.meaning.specs.declared.Group.TheVariants.{Never, Always}
use Rattle.meaning.specs.declared.Quantity.TheVariants.{Hour0To23, Minute, Second, Fraction}
use Rattle.meaning.specs.declared.Refusal.TheVariants.{NotStamp, StampRange, LeapSecond, StampYear, StampOffset}
use Rattle.meaning.specs.declared.Stamp.{Stamp}

-- reading: 6, 7, 25, then 26, 27, 28, 17

-- of the time and of the offset
abbrev pub is_clock : ℕ → ℕ → Bool
is_clock hour minute = both (leb hour 23) (leb minute 59)

-- 26
unfoldable pub in_range : DateTime → Bool
in_range t =
    both (within 1 12 t.date.month)
    (both (within 1 31 t.date.day)
    (both (is_clock t.time.hour t.time.minute)
    (both (leb t.time.second 60) (is_clock t.offset.hour t.offset.minute))))

unfoldable pub date_time_check : DateTime → Checked
unfolding in_range
date_time_check t =
    refuse_unless (in_range t) StampRange else
    refuse_unless (not (eqb t.time.second 60)) LeapSecond else
    refuse_unless (not (eqb t.date.year 0)) StampYear else
    day_check (pos t.date.year) t.date.month t.date.day

abbrev pub seconds_of : ℕ → ℕ → ℕ
seconds_of hour minute = hour * seconds_per_hour + minute * seconds_per_minute

abbrev pub nanos_of_day : PartialTime → ℕ
nanos_of_day t = (seconds_of t.hour t.minute + t.second) * nanos_per_second + t.nanos

-- "-00:00 reads as offset 0 with a mark"
abbrev pub is_unknown : NumOffset → Bool
is_unknown o = both o.negative (eqb (seconds_of o.hour o.minute) 0)

unfoldable pub stamp_of : DateTime → Stamp
stamp_of t =
    record {
      year = pos t.date.year;
      month = t.date.month;
      day = t.date.day;
      nanos = nanos_of_day t.time;
      offset = integer (record { negative = t.offset.negative; size = seconds_of t.offset.hour t.offset.minute });
      unknown = is_unknown t.offset;
    }

abbrev pub stamped_by : Checked → Stamped → Stamped
stamped_by (Ok _) r = r
stamped_by (Err why) r = Err why

abbrev pub stamped_in : Ruled DateTime → Stamped
stamped_in (reads t at) = stamped_by (date_time_check t) (Ok (stamp_of t))
stamped_in (halts place) = Err (NotStamp place)

unfoldable pub read_stamp : List ℕ → Stamped
unfolding text_check date_time date_time_check stamp_of
read_stamp s = stamped_by (text_check s) (stamped_in (whole date_time s))

-- writing: 4, 28, 17, 29, 5

-- the field record with what a stamp has, and else with what is always in range
abbrev pub stamp_fields : Stamp → Fields
stamp_fields t =
    record { year = t.year; month = t.month; day = t.day; doy = 1; week = 1; wday = 0; nanos = t.nanos; offset = t.offset }

abbrev pub four_digits : ℤ → Bool
four_digits year = both (not (is_negative year)) (within 1 9999 (nat_abs year))

-- "offset not whole minutes or not 0 under the mark"
abbrev pub offset_written : Stamp → Bool
offset_written t = both (divides seconds_per_minute (nat_abs t.offset)) (when t.unknown (eqb (nat_abs t.offset) 0) true)

unfoldable pub stamp_check : Stamp → Checked
unfolding fields_check
stamp_check t =
    fields_check (stamp_fields t) else
    refuse_unless (four_digits t.year) StampYear else
    day_check t.year t.month t.day else
    refuse_unless (offset_written t) StampOffset

unfoldable pub stamp_date : Stamp → List ℕ
stamp_date t = num 4 (nat_abs t.year) ++ minus ∷ num 2 t.month ++ minus ∷ num 2 t.day

unfoldable pub stamp_time : Stamp → List ℕ
unfolding quantity_of
stamp_time t =
    num 2 (quantity_of Hour0To23 (stamp_fields t)) ++ colon ∷ num 2 (quantity_of Minute (stamp_fields t)) ++ colon ∷ num 2 (quantity_of Second (stamp_fields t))

-- "written are nine, or no fraction when it is zero"
abbrev pub fraction_text : ℕ → List ℕ
fraction_text n = when (eqb n 0) [] (code "." ∷ num 9 n)

unfoldable pub stamp_fraction : Stamp → List ℕ
unfolding quantity_of
stamp_fraction t = fraction_text (quantity_of (Fraction 9) (stamp_fields t))

-- "-00:00 is written only with that mark; offset 0 without it is written Z"
unfoldable pub stamp_offset : Stamp → List ℕ
unfolding bytes offset_text
stamp_offset t = when t.unknown (bytes "-00:00") (zone_text true true Always Never t.offset)

unfoldable pub stamp_text : Stamp → List ℕ
unfolding stamp_date stamp_time stamp_fraction stamp_offset
stamp_text t = stamp_date t ++ code "T" ∷ stamp_time t ++ stamp_fraction t ++ stamp_offset t

unfoldable pub stamp_write_check : Stamp → ℕ → Checked
unfolding stamp_check stamp_text
stamp_write_check t room = stamp_check t else room_check room (length (stamp_text t))

-- the answer, and the lent output afterwards
unfoldable pub write_stamp : Stamp → List ℕ → Wrote
unfolding stamp_write_check
write_stamp t out = wrote_by (stamp_write_check t (length out)) (stamp_text t)

unfoldable pub stamp_output : Stamp → List ℕ → List ℕ
unfolding stamp_write_check
stamp_output t out = output_by (stamp_write_check t (length out)) (stamp_text t) out
