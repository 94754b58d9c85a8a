-- RFC 3339 stamps, about the definitions alone: a record that is written, then read, is itself; and what was read is written, and then reads
-- as the same record.
use Rattle.std.specs.Prelude.{Ok, Err}
use mathlib.Core.Bool.{Bool, true, false}
use mathlib.Core.List.{List, [], ◌∷◌, ◌++◌, append-nil}
use mathlib.Core.Path.{◌≡◌, refl, ap, ◌∙◌}
use Prim.Native.Nat.{ℕ, suc, ◌+◌, ◌*◌, ◌/◌, ◌%◌, ◌≤◌, ◌<◌}
use native.Mathlib.Omega.{arith}
use borrow.Author.Tests.{eq-eqb, ne_eqb, eqb-true, le-leb}
use lib.Dec.{eqb}
use lib.IntN.{ℤ, pos, negsuc, nat_abs}
use Rattle.meaning.proofs.Books.{english-valid}
use Rattle.meaning.specs.Answers.{refuse_unless, fields_check, text_check}
use Rattle.meaning.specs.Bytes.{when, both, bytes, digits}
use Rattle.meaning.specs.Calendar.{divides}
use Rattle.meaning.specs.Days.{day_check}
use Rattle.meaning.specs.Names.{english}
use Rattle.meaning.specs.Numerals.{integer}
use Rattle.meaning.specs.StampGrammar.{Ruled, reads, halts, NumOffset, DateTime, date_time, whole}
use Rattle.meaning.specs.Stamps.{in_range, date_time_check, seconds_of, stamp_of, stamped_by, stamped_in, read_stamp, stamp_fields, four_digits, offset_written, stamp_check, stamp_fraction, stamp_offset, stamp_text}
use Rattle.meaning.specs.Writing.{is_negative, quantity_of, signed_text, offset_digits, is_minus, offset_text}
use Rattle.meaning.specs.Results.{Checked, Stamped}
use Rattle.meaning.specs.declared.Group.TheVariants.{Never, Always}
use Rattle.meaning.specs.declared.Pair.TheVariants.{Full}
use Rattle.meaning.specs.declared.Refusal.TheVariants.{StampYear, StampOffset}
use Rattle.meaning.specs.declared.Stamp.{Stamp}
use Rattle.laws.proofs.Ascii.{english-ascii, written-checks}
use Rattle.laws.proofs.BookNames.{valid-short}
use Rattle.laws.proofs.Checks.{else-fine, fine-unless, within-is}
use Rattle.laws.proofs.Digits.{num-digits}
use Rattle.laws.proofs.Fields.{Allowed, allowed}
use Rattle.laws.proofs.Numbers.{size-alone}
use Rattle.laws.proofs.StampChecks.{in-range, checks-fine}
use Rattle.laws.proofs.StampGrammar.{Small, read_small}
use Rattle.laws.proofs.StampPatterns.{stamp_pattern, whole_second, FieldsOf, stamp-pieces, stamp-by-pattern, pattern-fine}
use Rattle.laws.proofs.StampTexts.{ReadsAs, z-reads, shift_bytes, shift-reads, front, fraction_bytes, date_time_by, text-read}
use Rattle.laws.proofs.Tests.{by-test, both_true}
use Rattle.laws.proofs.Zones.{offset_value, zero-offset, value-is}

-- what a record that is written has

pub record Written (t : Stamp) : Type 0 where
  pub fields : fields_check (stamp_fields t) ≡ Ok tt
  pub year : four_digits t.year ≡ true
  pub day : day_check t.year t.month t.day ≡ Ok tt
  pub offset : offset_written t ≡ true

pub stamp-fine : (t : Stamp) → stamp_check t ≡ Ok tt → Written t
unfolding stamp_check
stamp-fine t h =
    let a = else-fine (fields_check (stamp_fields t)) _ h in
    let b = else-fine (refuse_unless (four_digits t.year) StampYear) _ a.1 in
    let c = else-fine (day_check t.year t.month t.day) _ b.1 in
    record { fields = a.0; year = fine-unless (four_digits t.year) StampYear b.0; day = c.0; offset = fine-unless (offset_written t) StampOffset c.1 }

pub fine-stamp : (t : Stamp) → Written t → stamp_check t ≡ Ok tt
unfolding stamp_check
fine-stamp t w = rw (w.fields, w.year, w.day, w.offset)

-- a year of four digits

pub record FourDigits (year : ℤ) : Type 0 where
  pub positive : is_negative year ≡ false
  pub is : year ≡ pos (nat_abs year)
  pub some : 1 ≤ nat_abs year
  pub small : nat_abs year ≤ 9999

pub four-digits : (year : ℤ) → four_digits year ≡ true → FourDigits year
four-digits (pos n) h = let w = within-is 1 9999 n h in record { positive = refl; is = refl; some = w.0; small = w.1 }
four-digits (negsuc n) h = absurd (let z : ◌≡◌ {A = ℕ} 0 1 = cc in omega arith)

-- its numbers, small enough for their digits

abbrev hour_in : Stamp → ℕ
hour_in t = t.nanos / 1000000000 / 3600

abbrev minute_in : Stamp → ℕ
minute_in t = t.nanos / 1000000000 % 3600 / 60

abbrev second_in : Stamp → ℕ
second_in t = t.nanos / 1000000000 % 60

abbrev fraction_in : Stamp → ℕ
fraction_in t = t.nanos % 1000000000 / 1

abbrev offset_parts : Stamp → NumOffset
offset_parts t =
    record { negative = when t.unknown true (is_negative t.offset); hour = nat_abs t.offset / 3600; minute = nat_abs t.offset % 3600 / 60 }

zero_is : (z : ℤ) → nat_abs z ≡ 0 → z ≡ pos 0
zero_is (pos n) h = ap pos h
zero_is (negsuc n) h = absurd (omega arith)

-- an offset with its mark, from its sign and size

signed-again : (unknown : Bool) (z : ℤ) → (unknown ≡ true → nat_abs z ≡ 0) → integer (record { negative = when unknown true (is_negative z); size = nat_abs z }) ≡ z
signed-again true z h = rw (zero_is z (h refl))
signed-again false (pos n) h = refl
signed-again false (negsuc n) h = refl

marked-again : (unknown : Bool) (z : ℤ) → (unknown ≡ true → nat_abs z ≡ 0) → both (when unknown true (is_negative z)) (eqb (nat_abs z) 0) ≡ unknown
marked-again true z h = rw (h refl)
marked-again false (pos n) h = refl
marked-again false (negsuc n) h = ne_eqb (suc n) 0 (λ e. omega arith)

module _ (t : Stamp) (w : Written t) where
  pub sizes : Allowed (stamp_fields t)
  sizes = allowed (stamp_fields t) w.fields

  four : FourDigits t.year
  four = four-digits t.year w.year

  pub positive : is_negative t.year ≡ false
  positive = four.positive

  pub year-small : nat_abs t.year < 10000
  year-small = omega (arith, four.small)

  minutes : nat_abs t.offset % 60 ≡ 0
  minutes = eqb-true (nat_abs t.offset % 60) 0 (both_true (divides 60 (nat_abs t.offset)) _ w.offset).0

  unmarked : t.unknown ≡ true → nat_abs t.offset ≡ 0
  unmarked e = eqb-true (nat_abs t.offset) 0 (rw e at (both_true (divides 60 (nat_abs t.offset)) _ w.offset).1)

  -- the offset is read as its parts

  sign-is : eqb (nat_abs t.offset) 0 ≡ false → is_minus true Always Never t.offset ≡ is_negative t.offset
  unfolding is_minus
  sign-is e =
      let n = nat_abs t.offset in
      let value : offset_value Always Never n ≡ n = value-is Always refl Never n ∙ omega (arith, minutes) in
      rw (zero-offset true Always Never n, value, e)

  digits_are : offset_digits true Always Never (nat_abs t.offset) ≡ digits 2 (nat_abs t.offset / 3600) ++ 58 ∷ digits 2 (nat_abs t.offset % 3600 / 60) ++ []
  unfolding offset_digits
  digits_are =
      let n = nat_abs t.offset in
      rw (num-digits 2 (n / 3600) (omega arith) (omega (arith, sizes.offset)), num-digits 2 (n % 3600 / 60) (omega arith) (omega arith))

  signed-offset : eqb (nat_abs t.offset) 0 ≡ false → offset_text true Always Never t.offset ≡ shift_bytes (is_negative t.offset) (nat_abs t.offset / 3600) (nat_abs t.offset % 3600 / 60)
  unfolding offset_text digits
  signed-offset e = rw (sign-is e, digits_are)

  offset-reads : ReadsAs (stamp_offset t) (offset_parts t)
  unfolding stamp_offset bytes
  offset-reads =
      by-test t.unknown
      (λ e. rw (e, unmarked e) (shift-reads true 0 0 (omega arith) (omega arith)))
      (λ e.
      rw e
      (by-test (eqb (nat_abs t.offset) 0)
      (λ z. rw (zero_is t.offset (eqb-true (nat_abs t.offset) 0 z)) z-reads)
      (λ z. rw (z, signed-offset z) (shift-reads (is_negative t.offset) (nat_abs t.offset / 3600) (nat_abs t.offset % 3600 / 60) (omega (arith, sizes.offset)) (omega arith)))))

  in_pieces : stamp_text t ≡ front (nat_abs t.year) t.month t.day (hour_in t) (minute_in t) (second_in t) (fraction_bytes (fraction_in t) ++ stamp_offset t)
  unfolding signed_text quantity_of stamp_fraction front
  in_pieces =
      let a = sizes in
      stamp-pieces t positive
      ∙ rw (
        positive,
        num-digits 4 (nat_abs t.year) (omega arith) year-small,
        num-digits 2 t.month (omega arith) (omega (arith, a.month)),
        num-digits 2 t.day (omega arith) (omega (arith, a.day)),
        num-digits 2 (hour_in t) (omega arith) (omega (arith, a.nanos)),
        num-digits 2 (minute_in t) (omega arith) (omega arith),
        num-digits 2 (second_in t) (omega arith) (omega arith),
        num-digits 9 (fraction_in t) (omega arith) (omega arith),
        append-nil (stamp_offset t),
      )

  -- and the whole text as the record

  abbrev time_of : DateTime
  time_of = date_time_by (nat_abs t.year) t.month t.day (hour_in t) (minute_in t) (second_in t) (fraction_in t) (offset_parts t)

  range-in : in_range time_of ≡ true
  unfolding in_range
  range-in =
      let a = sizes in
      rw (
        le-leb 1 t.month a.month.0,
        le-leb t.month 12 a.month.1,
        le-leb 1 t.day a.day.0,
        le-leb t.day 31 a.day.1,
        le-leb (hour_in t) 23 (omega (arith, a.nanos)),
        le-leb (minute_in t) 59 (omega arith),
        le-leb (second_in t) 60 (omega arith),
        le-leb (nat_abs t.offset / 3600) 23 (omega (arith, a.offset)),
        le-leb (nat_abs t.offset % 3600 / 60) 59 (omega arith),
      )

  passes : date_time_check time_of ≡ Ok tt
  unfolding date_time_check
  passes =
      let some = sizes.year.0 in
      rw (range-in, ne_eqb (second_in t) 60 (λ e. omega arith), ne_eqb (nat_abs t.year) 0 (λ e. omega arith), ← four.is) w.day

  offset-size : seconds_of (nat_abs t.offset / 3600) (nat_abs t.offset % 3600 / 60) ≡ nat_abs t.offset
  offset-size = omega (arith, minutes)

  time-is : (seconds_of (hour_in t) (minute_in t) + second_in t) * 1000000000 + fraction_in t ≡ t.nanos
  time-is = omega arith

  stamp-is : stamp_of time_of ≡ t
  unfolding stamp_of
  stamp-is = rw (offset-size, time-is, signed-again t.unknown t.offset unmarked, marked-again t.unknown t.offset unmarked, ← four.is)

  text-checks : text_check (stamp_text t) ≡ Ok tt
  text-checks =
      let f = stamp_fields t in
      let p = stamp_pattern (whole_second t) t.unknown in
      let own : FieldsOf t f = record { year = refl; month = refl; day = refl; nanos = refl; offset = refl } in
      rw (← stamp-by-pattern english t f own positive)
      (written-checks english english-ascii (valid-short english english-valid) Full p f (pattern-fine (whole_second t) t.unknown) w.fields)

  reads-itself : read_stamp (stamp_text t) ≡ Ok t
  unfolding read_stamp
  reads-itself =
      let a = sizes in
      let r = text-read (nat_abs t.year) t.month t.day (hour_in t) (minute_in t) (second_in t) (fraction_in t) year-small (omega (arith, a.month)) (omega (arith, a.day)) (omega (arith, a.nanos)) (omega arith) (omega arith) (omega arith) (stamp_offset t) (offset_parts t) offset-reads in
      rw (text-checks, in_pieces, r.1, passes, stamp-is)

-- what was read has what a record that is written has

by-checks : (c : Checked) (r : Stamped) {t : Stamp} → stamped_by c r ≡ Ok t → (c ≡ Ok tt) × (r ≡ Ok t)
by-checks (Ok _) r e = (refl, e)
by-checks (Err why) r e = absurd (let q : ◌≡◌ {A = ℕ} 0 1 = cc in omega arith)

-- the date-time that it was read from
record ReadFrom (s : List ℕ) (t : Stamp) : Type 0 where
  parts : DateTime
  small : Small parts
  checked : date_time_check parts ≡ Ok tt
  same : stamp_of parts ≡ t

from_parts : (s : List ℕ) (t : Stamp) (r : Ruled DateTime) → whole date_time s ≡ r → stamped_in r ≡ Ok t → ReadFrom s t
from_parts s t (reads parts at) e h =
    let c = by-checks (date_time_check parts) (Ok (stamp_of parts)) h in
    record { parts = parts; small = read_small s parts at e; checked = c.0; same = cc }
from_parts s t (halts at) e h = absurd (let q : ◌≡◌ {A = ℕ} 0 1 = cc in omega arith)

read-from : (s : List ℕ) (t : Stamp) → read_stamp s ≡ Ok t → ReadFrom s t
unfolding read_stamp
read-from s t h = from_parts s t (whole date_time s) refl (by-checks (text_check s) (stamped_in (whole date_time s)) h).1

-- the mark of an offset, from its parts

mark-fine : (negative nothing : Bool) → when (both negative nothing) nothing true ≡ true
mark-fine true true = refl
mark-fine true false = refl
mark-fine false nothing = refl

module _ (p : DateTime) (small : Small p) (h : date_time_check p ≡ Ok tt) where
  abbrev offset_size : ℕ
  offset_size = seconds_of p.offset.hour p.offset.minute

  fields-fine : fields_check (stamp_fields (stamp_of p)) ≡ Ok tt
  unfolding stamp_of fields_check
  fields-fine =
      let a = checks-fine p h in
      let r = in-range p a.range in
      let some : 1 ≤ p.date.year = omega (arith, a.year) in
      let n = size-alone p.offset.negative offset_size in
      rw (
        le-leb 1 p.date.year some,
        le-leb p.date.year 5879611 (omega (arith, small.year)),
        le-leb 1 p.date.month r.month.0,
        le-leb p.date.month 12 r.month.1,
        le-leb 1 p.date.day r.day.0,
        le-leb p.date.day 31 r.day.1,
        le-leb 0 (stamp_of p).nanos (omega arith),
        le-leb (stamp_of p).nanos 86399999999999 (omega (arith, r.hour, r.minute, r.second, a.second, small.nanos)),
        n,
        le-leb 0 offset_size (omega arith),
        le-leb offset_size 86399 (omega (arith, r.offset-hour, r.offset-minute)),
      )

  year-fine : four_digits (stamp_of p).year ≡ true
  unfolding stamp_of
  year-fine = rw (le-leb 1 p.date.year (allowed (stamp_fields (stamp_of p)) fields-fine).year.0, le-leb p.date.year 9999 (omega (arith, small.year)))

  offset-fine : offset_written (stamp_of p) ≡ true
  unfolding stamp_of
  offset-fine =
      rw (size-alone p.offset.negative offset_size, eq-eqb (offset_size % 60) 0 (omega arith))
      (mark-fine p.offset.negative (eqb offset_size 0))

  writes-parts : Written (stamp_of p)
  unfolding stamp_of
  writes-parts = record { fields = fields-fine; year = year-fine; day = (checks-fine p h).day; offset = offset-fine }

-- the theorems

-- a record that is written, then read, is itself
pub written-reads : (t : Stamp) → stamp_check t ≡ Ok tt → read_stamp (stamp_text t) ≡ Ok t
written-reads t h = reads-itself t (stamp-fine t h)

-- what was read is written
pub read-writes : (s : List ℕ) (t : Stamp) → read_stamp s ≡ Ok t → stamp_check t ≡ Ok tt
read-writes s t h =
    let from = read-from s t h in
    fine-stamp t (rw from.same at (writes-parts from.parts from.small from.checked))

-- and reads as the same record
pub read_again : (s : List ℕ) (t : Stamp) → read_stamp s ≡ Ok t → read_stamp (stamp_text t) ≡ Ok t
read_again s t h = written-reads t (read-writes s t h)
