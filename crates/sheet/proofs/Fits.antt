-- The answers to what can be lent fit a row: each slice has fewer than 2 ^ 63 bytes, and the current year has 32 bits.
use Rattle.std.specs.Prelude.{Result, Ok, Err}
use mathlib.Core.Bool.{Bool, false}
use mathlib.Core.List.{List}
use Prim.Native.Char.{code}
use Prim.Native.Nat.{ℕ, ◌+◌, ◌*◌}
use native.Mathlib.Omega.{arith}
use lib.Dec.{eqb, leb}
use lib.IntN.{ℤ, pos, neg_ℤ}
use lib.ListN.{length, get_or, drop, length-drop}
use Rattle.pattern.proofs.parts.Few.{few-steps}
use mir.Syntax.{w32}
use mir.Val.{SFits}
use Rattle.laws.proofs.Checks.{write-fine}
use Rattle.laws.proofs.Fields.{allowed}
use Rattle.laws.proofs.OpenedBooks.{opened-text-fits}
use Rattle.laws.proofs.Tests.{when-is}
use Rattle.meaning.proofs.Books.{english-valid}
use Rattle.meaning.specs.Answers.{◌else◌, refuse_unless, pattern_check, fields_check, room_check, text_check, details}
use Rattle.meaning.specs.Bytes.{when, plus}
use Rattle.meaning.specs.Calendar.{is_date, date_number}
use Rattle.meaning.specs.Days.{is_short, day_check, day_number_by, day_number}
use Rattle.meaning.specs.Names.{english}
use Rattle.meaning.specs.OpenedBooks.{book_in}
use Rattle.meaning.specs.Numerals.{Signed}
use Rattle.meaning.specs.Readers.{Got, got, stopped}
use Rattle.meaning.specs.Trust.{SaysOf, Says}
use Rattle.meaning.specs.Whole.{text, write_check, write, offset_by, seconds, hour_and_minute, two_at, parse_offset}
use Rattle.meaning.specs.Results.{Checked, Offset}
use Rattle.meaning.specs.declared.Edition.{Edition}
use Rattle.meaning.specs.declared.Fields.{Fields}
use Rattle.meaning.specs.declared.Numeral.TheVariants.{Count}
use Rattle.meaning.specs.declared.Pair.{Pair}
use Rattle.meaning.specs.declared.Pair.TheVariants.{Full}
use Rattle.meaning.specs.declared.Refusal.TheVariants.{NoRoom, OffsetLength, OffsetRange, NoSuchDay, NoDayNumber}
use Rattle.meaning.specs.declared.Refusal.{Refusal}
use Rattle.meaning.specs.declared.Verdict.{Verdict}
use Rattle.meaning.specs.declared.Verdict.TheVariants.{Yes, No}
use Rattle.rows.proofs.entries.Fits.{else-fits, unless-fits}
use Rattle.rows.specs.Fits.{NumberFits, CheckedFits, CountFits, IntegerFits, VerdictFits}
use Rattle.parse.proofs.steps.Within.{Within, within-take}
use Rattle.rows.proofs.WriteFits.{fields_fit, wrote-fits}
use Rattle.rows.proofs.Fits.{pattern-fits, trust-fits, text-fits}

-- writing

write-check-fits : (pair : Pair) (book p : List ℕ) (f : Fields) (room : ℕ) → NumberFits (length p) → CheckedFits (write_check pair (book_in book) p f room)
unfolding write_check details
write-check-fits pair book p f room h =
    let n = length (text pair (book_in book) p f) in
    else-fits (pattern_check p) (fields_check f else room_check room n) (pattern-fits p h)
    (λ fine. else-fits (fields_check f) (room_check room n) (fields_fit f)
    (λ fields. unless-fits (leb n room) (NoRoom n) (omega (arith, opened-text-fits book pair p f fine fields), tt)))

pub write-fits : (pair : Pair) (book p : List ℕ) (f : Fields) (out : List ℕ) → NumberFits (length p) → NumberFits (length out)
    → CountFits (write pair (book_in book) p f out)
unfolding write
write-fits pair book p f out h k =
    wrote-fits (write_check pair (book_in book) p f (length out)) (text pair (book_in book) p f) (write-check-fits pair book p f (length out) h)
    (λ e. omega (arith, (write-fine pair (book_in book) p f (length out) e).fits))

-- parse_offset

offset-by-fits : (checked : Checked) (o : Offset) → CheckedFits checked → IntegerFits o → IntegerFits (offset_by checked o)
offset-by-fits (Ok _) o h k = k
offset-by-fits (Err why) o h k = h

seconds-fit : (ahead : Bool) (hour minute : ℕ) → IntegerFits (seconds ahead hour minute)
unfolding details
seconds-fit ahead hour minute =
    let time = pos (hour * 3600 + minute * 60) in
    let hours = refuse_unless (leb hour 23) (OffsetRange 1) in
    let minutes = refuse_unless (leb minute 59) (OffsetRange 2) in
    offset-by-fits (hours else minutes) (Ok (when ahead time (neg_ℤ time)))
    (else-fits hours minutes (unless-fits (leb hour 23) (OffsetRange 1) (omega arith, tt)) (λ _. unless-fits (leb minute 59) (OffsetRange 2) (omega arith, tt)))
    tt

time-fits : (ahead : Bool) (n m : ℕ) (hour minute : Got Signed) → Within n hour → Within m minute → NumberFits (1 + n) → NumberFits (4 + m)
    → IntegerFits (hour_and_minute ahead hour minute)
unfolding details
time-fits ahead n m (stopped why i) minute h k f g = (omega arith, (omega arith, tt))
time-fits ahead n m (got n' hour) (stopped why i) h k f g = (omega arith, (omega arith, tt))
time-fits ahead n m (got n' hour) (got m' minute) h k f g = seconds-fit ahead hour.size minute.size

pub offset-fits : (s : List ℕ) → NumberFits (length s) → IntegerFits (parse_offset s)
unfolding parse_offset details
offset-fits s h =
    let utc = eqb (get_or s 0 0) (code "Z") in
    let six = refuse_unless (eqb (length s) 6) (OffsetLength (length s)) in
    let time = hour_and_minute (eqb (get_or s 0 0) plus) (two_at 1 s) (two_at 4 s) in
    offset-by-fits (text_check s) (when utc (Ok (pos 0)) (offset_by six time)) (text-fits s h)
    (when-is IntegerFits utc (λ _. tt)
    (λ _. offset-by-fits six time (unless-fits (eqb (length s) 6) (OffsetLength (length s)) (h, tt))
    (time-fits (eqb (get_or s 0 0) plus) (length (drop 1 s)) (length (drop 4 s)) (two_at 1 s) (two_at 4 s) (within-take Count 2 (drop 1 s)) (within-take Count 2 (drop 4 s))
    (omega (arith, length-drop 1 s)) (omega (arith, length-drop 4 s)))))

-- the number of a day

day-by-fits : (checked : Checked) (z : ℤ) → CheckedFits checked → IntegerFits (day_number_by checked z)
day-by-fits (Ok _) z h = tt
day-by-fits (Err why) z h = h

pub day-fits : (y : ℤ) (m d : ℕ) → CheckedFits (day_check y m d)
unfolding day_check details
day-fits y m d =
    else-fits (refuse_unless (is_date y m d) NoSuchDay) (refuse_unless (is_short (date_number y m d)) NoDayNumber) (unless-fits (is_date y m d) NoSuchDay (omega arith, tt))
    (λ _. unless-fits (is_short (date_number y m d)) NoDayNumber (omega arith, tt))

pub day-number-fits : (y : ℤ) (m d : ℕ) → IntegerFits (day_number y m d)
unfolding day_number
day-number-fits y m d = day-by-fits (day_check y m d) (date_number y m d) (day-fits y m d)

-- the check

pub verdict-fits : (edition : Edition) (p : List ℕ) (current : ℤ) (v : Result Verdict Refusal) → NumberFits (length p) → SFits w32 current → Says edition p current v → VerdictFits v
unfolding SaysOf
verdict-fits edition p current (Ok Yes) h y s = tt
verdict-fits edition p current (Ok (No part f)) h y s =
    (omega (arith, (s english english-valid false).1.there, few-steps Full p), omega (arith, (allowed f (s english english-valid false).1.counts.allowed).nanos))
verdict-fits edition p current (Err why) h y s =
    rw (s english english-valid false) at (trust-fits edition p current h y)
