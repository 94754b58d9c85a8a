-- Specification, "Answer numbers": the whole answer of each function, with its checks in their order. Splitting; writing for
-- a pair; reading for a pair, strict or not, in an edition; parse_offset.
use Rattle.std.specs.Prelude.{Bool, true, false, List, [], ◌∷◌, ◌++◌, map, ℕ, suc, ◌+◌, ◌*◌, ◌-◌, ◌/◌, ◌%◌, ◌^◌, eqb, leb, ℤ, pos, neg_ℤ, nat_abs, length, get_or, drop, replicate, Result, Ok, Err, Option, Some, None}
use Prim.Native.Char.{code}
use Rattle.std.proofs.lemmas.List.Edits.{sets}
use Rattle.meaning.specs.Answers.{◌else◌, refuse_unless, bytes_check, pattern_check, fields_check, room_check, text_check, current_year_check, rest_check}
use Rattle.meaning.specs.Bytes.{when, plus}
use Rattle.meaning.specs.Names.{Book}
use Rattle.meaning.specs.Numerals.{Signed}
use Rattle.meaning.specs.Readers.{Got, got, stopped, NumberReader, take_number}
use Rattle.meaning.specs.Reading.{read_step_with, read_step}
use Rattle.meaning.specs.Splitting.{parts, no_part}
use Rattle.meaning.specs.UnitSizes.{seconds_per_hour, seconds_per_minute}
use Rattle.meaning.specs.Writing.{Step, steps, texts}
use Rattle.meaning.specs.declared.Carried.{Carried}
use Rattle.meaning.specs.Results.{Checked, Offset, Wrote}
use Rattle.meaning.specs.declared.Choices.{Choices}
use Rattle.meaning.specs.declared.Edition.{Edition}
use Rattle.meaning.specs.declared.Edition.TheVariants.{First}
use Rattle.meaning.specs.declared.Fields.{Fields}
use Rattle.meaning.specs.declared.Numeral.TheVariants.{Count}
use Rattle.meaning.specs.declared.Pair.{Pair}
use Rattle.meaning.specs.declared.ParseUnit.{ParseUnit}
use Rattle.meaning.specs.declared.ParseUnit.TheVariants as unit
use Rattle.meaning.specs.declared.Part.{Part}
use Rattle.meaning.specs.declared.Reading.{Reading}
use Rattle.meaning.specs.declared.Refusal.{Refusal}
use Rattle.meaning.specs.declared.Refusal.TheVariants.{InPart, OffsetLength, OffsetRange}
use Rattle.meaning.specs.declared.Split.{Split}

-- Splitting checks 1, 2.

abbrev pub split_into : List Part → Split
split_into ps = record { parts = ps ++ replicate (256 - length ps) no_part; used = length ps }

abbrev pub split_by : Checked → List ℕ → Result Split Refusal
split_by (Ok _) p = Ok (split_into (parts p))
split_by (Err why) p = Err why

unfoldable pub split : List ℕ → Result Split Refusal
unfolding bytes_check parts
split p = split_by (bytes_check p) p

-- Writing checks 1, 2, 3, 4, 5.

-- the text of a pattern and a record
unfoldable pub text : Pair → Book → List ℕ → Fields → List ℕ
unfolding steps texts
text pair book p f = texts book f (steps pair p)

unfoldable pub write_check : Pair → Book → List ℕ → Fields → ℕ → Checked
unfolding pattern_check fields_check text
write_check pair book p f room = pattern_check p else fields_check f else room_check room (length (text pair book p f))

abbrev pub wrote_by : Checked → List ℕ → Wrote
wrote_by (Ok _) t = Ok (length t)
wrote_by (Err why) t = Err why

abbrev pub output_by : Checked → List ℕ → List ℕ → List ℕ
output_by (Ok _) t out = sets out 0 t
output_by (Err why) t out = out

-- the answer, and the lent output afterwards
unfoldable pub write : Pair → Book → List ℕ → Fields → List ℕ → Wrote
unfolding write_check
write pair book p f out = wrote_by (write_check pair book p f (length out)) (text pair book p f)

unfoldable pub output : Pair → Book → List ℕ → Fields → List ℕ → List ℕ
unfolding write_check
output pair book p f out = output_by (write_check pair book p f (length out)) (text pair book p f) out

-- Reading checks 1, 2, 3, 14, 6, 7, then parts in order, then 16 where it is strict.

-- the reading of a pair with no choice made: not strict, in the first edition
abbrev pub plain : Pair → Choices
plain pair = record { pair = pair; strict = false; edition = First }

-- what a part gave: the value that it carries, and all the bytes that it took, from the place of the first to that behind the last
pub record Gave : Type 0 where
  pub carried : Option Carried
  pub start : ℕ
  pub end : ℕ

-- the bytes read and what the parts gave, the newest first; or the first refusal of a part
pub data Walk : Type 0 where
  walked : ℕ → List Gave → Walk
  refused_at : Refusal → Walk

abbrev pub walked_by : Checked → ℕ → List Gave → Walk
walked_by (Ok _) at gave = walked at gave
walked_by (Err why) at gave = refused_at why

-- part i and those behind it, from the text that remains at a place
unfoldable pub walk_with : NumberReader → Choices → Book → ℕ → ℕ → ℕ → List Step → List ℕ → List Gave → Walk
unfolding read_step_with
walk_with number choices book current i at [] s gave = walked_by (rest_check choices.strict at s) at gave
walk_with number choices book current i at (step ∷ steps) s gave =
    elim (read_step_with number choices book current step s) [
      | got n c ↦ walk_with number choices book current (suc i) (at + n) steps (drop n s) (record { carried = c; start = at; end = at + n } ∷ gave)
      | stopped why place ↦ refused_at (InPart why i (at + place))
    ]

unfoldable pub walk : Choices → Book → ℕ → ℕ → ℕ → List Step → List ℕ → List Gave → Walk
unfolding walk_with read_step
walk = walk_with take_number

abbrev pub unit_number : ParseUnit → ℕ
unit_number unit.Year = 0
unit_number unit.Month = 1
unit_number unit.DayOfMonth = 2
unit_number unit.DayOfYear = 3
unit_number unit.Hour = 4
unit_number unit.Period = 5
unit_number unit.PeriodHour = 6
unit_number unit.Minute = 7
unit_number unit.Second = 8
unit_number unit.Decis = 9
unit_number unit.Centis = 10
unit_number unit.Millis = 11
unit_number unit.Micros = 12
unit_number unit.Nanos = 13
unit_number unit.Offset = 14

-- whether that is unit k, and the value
abbrev pub is_of : ℕ → Option Carried → Bool
is_of k None = false
is_of k (Some c) = eqb (unit_number c.unit) k

abbrev pub value_in : Option Carried → ℤ
value_in None = pos 0
value_in (Some c) = c.value

-- "the last part winning": what there is of the last part that gave unit k, or else this
unfoldable pub last_of : {A : Type 0} → (Gave → A) → A → List Gave → ℕ → A
last_of of other [] k = other
last_of of other (g ∷ gave) k = when (is_of k g.carried) (of g) (last_of of other gave k)

-- whether unit k was read, its value, and where its part began and ended
abbrev pub was_read : List Gave → ℕ → Bool
was_read = last_of (λ g. true) false

abbrev pub value_of : List Gave → ℕ → ℤ
value_of = last_of (λ g. value_in g.carried) (pos 0)

abbrev pub began_at : List Gave → ℕ → ℕ
began_at = last_of (λ g. g.start) 0

abbrev pub ended_at : List Gave → ℕ → ℕ
ended_at = last_of (λ g. g.end) 0

abbrev pub fifteen : List ℕ
fifteen = 0 ∷ 1 ∷ 2 ∷ 3 ∷ 4 ∷ 5 ∷ 6 ∷ 7 ∷ 8 ∷ 9 ∷ 10 ∷ 11 ∷ 12 ∷ 13 ∷ 14 ∷ []

-- the number whose bit k is the k-th mark, and how many marks are set
unfoldable pub bits : List Bool → ℕ
bits [] = 0
bits (mark ∷ marks) = when mark 1 0 + 2 * bits marks

unfoldable pub how_many : List Bool → ℕ
how_many [] = 0
how_many (mark ∷ marks) = when mark 1 0 + how_many marks

-- what a user of the record tests: whether bit k of a mask is set
unfoldable pub marked : ℕ → ℕ → Bool
marked mask k = eqb (mask / 2 ^ k % 2) 1

abbrev pub reading_of : ℕ → List Gave → Reading
reading_of taken gave =
    record {
      taken = taken;
      values = map (value_of gave) fifteen;
      mask = bits (map (was_read gave) fifteen);
      units = how_many (map (was_read gave) fifteen);
      starts = map (began_at gave) fifteen;
      ends = map (ended_at gave) fifteen;
    }

-- what the cells of a list have of an answer: of a refused reading "values, mask, counts and bytes read are all 0", and no part began
-- or ended
abbrev pub record_of : Result Reading Refusal → Reading
record_of (Ok r) = r
record_of (Err why) = reading_of 0 []

abbrev pub walk_reading : Walk → Result Reading Refusal
walk_reading (walked taken gave) = Ok (reading_of taken gave)
walk_reading (refused_at why) = Err why

abbrev pub read_by : Checked → Walk → Result Reading Refusal
read_by (Ok _) w = walk_reading w
read_by (Err why) w = Err why

unfoldable pub read_check : Edition → List ℕ → List ℕ → ℤ → Checked
unfolding pattern_check current_year_check text_check
read_check edition p s current = pattern_check p else current_year_check edition current else text_check s

unfoldable pub read_with : NumberReader → Choices → Book → List ℕ → List ℕ → ℤ → Result Reading Refusal
unfolding read_check steps walk_with last_of bits how_many
read_with number choices book p s current =
    read_by (read_check choices.edition p s current) (walk_with number choices book (nat_abs current) 0 0 (steps choices.pair p) s [])

unfoldable pub read : Choices → Book → List ℕ → List ℕ → ℤ → Result Reading Refusal
unfolding read_with walk
read = read_with take_number

-- parse_offset: 6, 7, then Z, 12, then 19 and 9 of the hour, 19 and 9 of the minute, 13.

abbrev pub offset_by : Checked → Offset → Offset
offset_by (Ok _) o = o
offset_by (Err why) o = Err why

abbrev pub seconds : Bool → ℕ → ℕ → Offset
seconds ahead hour minute =
    offset_by (refuse_unless (leb hour 23) (OffsetRange 1) else refuse_unless (leb minute 59) (OffsetRange 2))
    (Ok (when ahead (pos (hour * seconds_per_hour + minute * seconds_per_minute)) (neg_ℤ (pos (hour * seconds_per_hour + minute * seconds_per_minute)))))

-- the hour stands at 1, the minute at 4
abbrev pub hour_and_minute : Bool → Got Signed → Got Signed → Offset
hour_and_minute ahead (stopped why i) minute = Err (InPart why 0 (1 + i))
hour_and_minute ahead (got n hour) (stopped why i) = Err (InPart why 0 (4 + i))
hour_and_minute ahead (got n hour) (got m minute) = seconds ahead hour.size minute.size

-- two bytes at a place, as a number
abbrev pub two_at_with : NumberReader → ℕ → List ℕ → Got Signed
two_at_with number i s = number Count 2 (drop i s)

unfoldable pub parse_offset_with : NumberReader → List ℕ → Offset
unfolding text_check
parse_offset_with number s =
    offset_by (text_check s)
    (when (eqb (get_or s 0 0) (code "Z")) (Ok (pos 0))
    (offset_by (refuse_unless (eqb (length s) 6) (OffsetLength (length s)))
    (hour_and_minute (eqb (get_or s 0 0) plus) (two_at_with number 1 s) (two_at_with number 4 s))))

abbrev pub two_at : ℕ → List ℕ → Got Signed
two_at = two_at_with take_number

unfoldable pub parse_offset : List ℕ → Offset
unfolding parse_offset_with take_number
parse_offset = parse_offset_with take_number
