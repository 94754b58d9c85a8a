-- The answers about stamps fit a row: a place that is refused is in the text or at its end, the nanoseconds are those of a day, and what is
-- written has at most 35 bytes.
use Rattle.std.specs.Prelude.{Ok, Err}
use mathlib.Core.Bool.{not}
use mathlib.Core.List.{List}
use mathlib.Core.Path.{◌≡◌, refl}
use Prim.Native.Nat.{ℕ}
use native.Mathlib.Omega.{arith}
use lib.Dec.{eqb, leb}
use lib.IntN.{pos}
use lib.ListN.{length}
use Rattle.laws.proofs.Checks.{else-fine}
use Rattle.laws.proofs.StampPlaces.{halts-inside}
use Rattle.laws.proofs.Stamps.{stamp-fine, sizes, read-writes}
use Rattle.meaning.specs.Answers.{◌else◌, refuse_unless, fields_check, room_check, text_check, details}
use Rattle.meaning.specs.Days.{day_check}
use Rattle.meaning.specs.StampGrammar.{Ruled, reads, halts, DateTime, date_time, whole}
use Rattle.meaning.specs.Stamps.{in_range, date_time_check, stamp_of, stamped_by, stamped_in, read_stamp, stamp_fields, four_digits, offset_written, stamp_check, stamp_text, stamp_write_check, write_stamp}
use Rattle.meaning.specs.Results.{Checked, Stamped}
use Rattle.meaning.specs.declared.Refusal.TheVariants.{NoRoom, StampRange, LeapSecond, StampYear, StampOffset}
use Rattle.meaning.specs.declared.Stamp.{Stamp}
use Rattle.stamps.proofs.writing.Lengths.{text-short}
use Rattle.rows.proofs.Fits.{text-fits}
use Rattle.rows.proofs.WriteFits.{fields_fit, wrote-fits}
use Rattle.sheet.proofs.Fits.{day-fits}
use Rattle.rows.proofs.entries.Fits.{else-fits, unless-fits}
use Rattle.rows.specs.Fits.{NumberFits, WhyFits, CheckedFits, CountFits, StampedFits}

-- reading: 26, 27, 28, 17

date-time-fits : (t : DateTime) → CheckedFits (date_time_check t)
unfolding date_time_check details
date-time-fits t =
    let second = refuse_unless (not (eqb t.time.second 60)) LeapSecond in
    let year = refuse_unless (not (eqb t.date.year 0)) StampYear in
    let day = day_check (pos t.date.year) t.date.month t.date.day in
    else-fits (refuse_unless (in_range t) StampRange) (second else year else day) (unless-fits (in_range t) StampRange (omega arith, tt))
    (λ _. else-fits second (year else day) (unless-fits (not (eqb t.time.second 60)) LeapSecond (omega arith, tt))
    (λ _. else-fits year day (unless-fits (not (eqb t.date.year 0)) StampYear (omega arith, tt)) (λ _. day-fits (pos t.date.year) t.date.month t.date.day)))

-- what is refused
abbrev RefusalFits : Stamped → Type 0
RefusalFits (Ok t) = Unit
RefusalFits (Err why) = WhyFits why

by_fits : (checked : Checked) (r : Stamped) → CheckedFits checked → RefusalFits r → RefusalFits (stamped_by checked r)
by_fits (Ok _) r h k = k
by_fits (Err why) r h k = h

in-fits : (s : List ℕ) (x : Ruled DateTime) → NumberFits (length s) → whole date_time s ≡ x → RefusalFits (stamped_in x)
unfolding details
in-fits s (reads t at) h e = by_fits (date_time_check t) (Ok (stamp_of t)) (date-time-fits t) tt
in-fits s (halts place) h e = (omega (arith, halts-inside s e), tt)

refusal-fits : (s : List ℕ) → NumberFits (length s) → RefusalFits (read_stamp s)
unfolding read_stamp
refusal-fits s h = by_fits (text_check s) (stamped_in (whole date_time s)) (text-fits s h) (in-fits s (whole date_time s) h refl)

-- what is read has passed the checks of a writer
answer-fits : (s : List ℕ) (r : Stamped) → read_stamp s ≡ r → RefusalFits r → StampedFits r
answer-fits s (Ok t) e h = omega (arith, (sizes t (stamp-fine t (read-writes s t e))).nanos)
answer-fits s (Err why) e h = h

pub read-stamp-fits : (s : List ℕ) → NumberFits (length s) → StampedFits (read_stamp s)
read-stamp-fits s h = answer-fits s (read_stamp s) refl (refusal-fits s h)

-- writing: 4, 28, 17, 29, 5

stamp-check-fits : (t : Stamp) → CheckedFits (stamp_check t)
unfolding stamp_check details
stamp-check-fits t =
    let year = refuse_unless (four_digits t.year) StampYear in
    let day = day_check t.year t.month t.day in
    let offset = refuse_unless (offset_written t) StampOffset in
    else-fits (fields_check (stamp_fields t)) (year else day else offset) (fields_fit (stamp_fields t))
    (λ _. else-fits year (day else offset) (unless-fits (four_digits t.year) StampYear (omega arith, tt))
    (λ _. else-fits day offset (day-fits t.year t.month t.day) (λ _. unless-fits (offset_written t) StampOffset (omega arith, tt))))

pub write-stamp-fits : (t : Stamp) (out : List ℕ) → CountFits (write_stamp t out)
unfolding write_stamp stamp_write_check details
write-stamp-fits t out =
    let n = length (stamp_text t) in
    wrote-fits (stamp_write_check t (length out)) (stamp_text t)
    (else-fits (stamp_check t) (room_check (length out) n) (stamp-check-fits t)
    (λ fine. unless-fits (leb n (length out)) (NoRoom n) (omega (arith, text-short t (stamp-fine t fine)), tt)))
    (λ e. omega (arith, text-short t (stamp-fine t (else-fine (stamp_check t) (room_check (length out) n) e).0)))
