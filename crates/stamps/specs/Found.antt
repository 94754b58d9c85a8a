-- The answers of the rules in code, from what the rules of the definitions give.
use Rattle.std.specs.Prelude.{List, ℕ, ◌+◌, ◌*◌, Result, Ok, Err}
use Rattle.meaning.specs.StampGrammar.{Ruled, reads, halts, NumOffset, DateTime}
use Rattle.numerals.specs.Numbers.{pair_at}
use Rattle.stamps.specs.declared.grammar.Halted.{Halted}
use Rattle.stamps.specs.declared.grammar.Parts.{Parts}
use Rattle.stamps.specs.declared.grammar.Shift.{Shift}

abbrev pub halted : ℕ → Halted
halted at = record { place = at }

abbrev pub fraction_by : Ruled ℕ → Result (ℕ × ℕ) Halted
fraction_by (reads n at) = Ok (n, at)
fraction_by (halts at) = Err (halted at)

abbrev pub shift_of : NumOffset → Shift
shift_of o = record { negative = o.negative; hour = o.hour; minute = o.minute }

abbrev pub zone_by : Ruled NumOffset → Result (Shift × ℕ) Halted
zone_by (reads o at) = Ok (shift_of o, at)
zone_by (halts at) = Err (halted at)

abbrev pub parts_of : DateTime → Parts
parts_of t =
    record {
      year = t.date.year;
      month = t.date.month;
      day = t.date.day;
      hour = t.time.hour;
      minute = t.time.minute;
      second = t.time.second;
      nanos = t.time.nanos;
      shift = shift_of t.offset;
    }

-- those of a text whose bytes up to the fraction are at their places
abbrev pub parts_in : List ℕ → ℕ → Shift → Parts
parts_in s nanos shift =
    record {
      year = pair_at 0 s * 100 + pair_at 2 s;
      month = pair_at 5 s;
      day = pair_at 8 s;
      hour = pair_at 11 s;
      minute = pair_at 14 s;
      second = pair_at 17 s;
      nanos = nanos;
      shift = shift;
    }

abbrev pub scanned_by : Ruled DateTime → Result Parts Halted
scanned_by (reads t at) = Ok (parts_of t)
scanned_by (halts at) = Err (halted at)

-- and the other way

abbrev pub offset_of : Shift → NumOffset
offset_of h = record { negative = h.negative; hour = h.hour; minute = h.minute }

abbrev pub date_time_of : Parts → DateTime
date_time_of p =
    record {
      date = record { year = p.year; month = p.month; day = p.day };
      time = record { hour = p.hour; minute = p.minute; second = p.second; nanos = p.nanos };
      offset = offset_of p.shift;
    }
