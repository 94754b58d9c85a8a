-- Specification, "Answer numbers": each refusal's number and what it returns; the number and the values of each kind of answer;
-- and the checks that give refusals 1 to 7, 14 and 16. The checks of a function stand in its order, in Whole; those of a day's number
-- in Days.
use Rattle.std.specs.Prelude.{Bool, true, false, List, [], ◌∷◌, ◌++◌, map, ℕ, suc, ◌-◌, leb, ltb, ℤ, pos, nat_abs, length, Result, Ok, Err}
use Rattle.meaning.specs.Bytes.{when, both}
use Rattle.meaning.specs.Splitting.{Content, run, quotes, quoted, unclosed, contents}
use Rattle.meaning.specs.Writing.{is_negative}
use Rattle.meaning.specs.Results.{Checked, DayNumber, Listed, Offset, Stamped, Wrote}
use Rattle.meaning.specs.declared.Day.{Day}
use Rattle.meaning.specs.declared.Edition.{Edition}
use Rattle.meaning.specs.declared.Edition.TheVariants.{First, Second}
use Rattle.meaning.specs.declared.Fields.{Fields}
use Rattle.meaning.specs.declared.Reading.{Reading}
use Rattle.meaning.specs.declared.Refusal.{Refusal}
use Rattle.meaning.specs.declared.Refusal.TheVariants.{PatternTooLong, PatternByte, LoneQuote, FieldRange, NoRoom, TextTooLong, TextByte, InPart, OffsetLength, OffsetRange, CurrentYear, TextLeft, NoSuchDay, NoDayNumber, BookMark, BookVersion, BookCut, BookName, ShortRow, NotStamp, StampRange, LeapSecond, StampYear, StampOffset, MendedTooLong}
use Rattle.meaning.specs.declared.Split.{Split}
use Rattle.meaning.specs.declared.Stamp.{Stamp}
use Rattle.meaning.specs.declared.Trouble.{Trouble}
use Rattle.meaning.specs.declared.Trouble.TheVariants.{TooFew, NoNumber, NoName, NoSign, LiteralDiffers, PlusSign}
use Rattle.meaning.specs.declared.Verdict.{Verdict}
use Rattle.meaning.specs.declared.Verdict.TheVariants.{Yes, No}

abbrev pub trouble_number : Trouble → ℕ
trouble_number TooFew = 8
trouble_number NoNumber = 9
trouble_number NoName = 10
trouble_number NoSign = 11
trouble_number LiteralDiffers = 15
trouble_number PlusSign = 19

unfoldable pub number : Refusal → ℕ
number (PatternTooLong n) = 1
number (PatternByte place) = 2
number (LoneQuote place) = 3
number (FieldRange field) = 4
number (NoRoom n) = 5
number (TextTooLong n) = 6
number (TextByte place) = 7
number (InPart why part place) = trouble_number why
number (OffsetLength n) = 12
number (OffsetRange which) = 13
number (CurrentYear year) = 14
number (TextLeft place) = 16
number NoSuchDay = 17
number NoDayNumber = 18
number BookMark = 20
number BookVersion = 21
number BookCut = 22
number (BookName which) = 23
number ShortRow = 24
number (NotStamp place) = 25
number StampRange = 26
number LeapSecond = 27
number StampYear = 28
number StampOffset = 29
number MendedTooLong = 30

-- what is returned with the number, in the table's order
unfoldable pub details : Refusal → List ℤ
details (PatternTooLong n) = pos n ∷ []
details (PatternByte place) = pos place ∷ []
details (LoneQuote place) = pos place ∷ []
details (FieldRange field) = pos field ∷ []
details (NoRoom n) = pos n ∷ []
details (TextTooLong n) = pos n ∷ []
details (TextByte place) = pos place ∷ []
details (InPart why part place) = pos part ∷ pos place ∷ []
details (OffsetLength n) = pos n ∷ []
details (OffsetRange which) = pos which ∷ []
details (CurrentYear year) = year ∷ []
details (TextLeft place) = pos place ∷ []
details NoSuchDay = pos 0 ∷ []
details NoDayNumber = pos 0 ∷ []
details BookMark = pos 0 ∷ []
details BookVersion = pos 0 ∷ []
details BookCut = pos 0 ∷ []
details (BookName which) = pos which ∷ []
details ShortRow = pos 0 ∷ []
details (NotStamp place) = pos place ∷ []
details StampRange = pos 0 ∷ []
details LeapSecond = pos 0 ∷ []
details StampYear = pos 0 ∷ []
details StampOffset = pos 0 ∷ []
details MendedTooLong = pos 0 ∷ []

-- an answer's number, 0 where it is accepted, and what is returned with it
pub record Answer : Type 0 where
  pub number : ℕ
  pub values : List ℤ

abbrev pub accepted : List ℤ → Answer
accepted values = record { number = 0; values = values }

abbrev pub refused : Refusal → Answer
refused why = record { number = number why; values = details why }

abbrev pub answer_by : Checked → List ℤ → Answer
answer_by (Ok _) values = accepted values
answer_by (Err why) values = refused why

-- how many parts
abbrev pub split_answer : Result Split Refusal → Answer
split_answer (Ok s) = accepted (pos s.used ∷ [])
split_answer (Err why) = refused why

-- one number
abbrev pub integer_answer : Result ℤ Refusal → Answer
integer_answer (Ok z) = accepted (z ∷ [])
integer_answer (Err why) = refused why

abbrev pub count_answer : Result ℕ Refusal → Answer
count_answer (Ok n) = accepted (pos n ∷ [])
count_answer (Err why) = refused why

-- the length of the text
abbrev pub wrote_answer : Wrote → Answer
wrote_answer wrote = count_answer wrote

-- the bytes read, the mask, how many units, the fifteen values, and where the part of each began and where it ended
abbrev pub read_answer : Result Reading Refusal → Answer
read_answer (Ok r) =
    accepted (pos r.taken ∷ pos r.mask ∷ pos r.units ∷ r.values ++ map pos r.starts ++ map pos r.ends)
read_answer (Err why) = refused why

-- how many lines
abbrev pub list_answer : Listed → Answer
list_answer listed = count_answer listed

-- the seconds
abbrev pub offset_answer : Offset → Answer
offset_answer offset = integer_answer offset

-- the eight fields
abbrev pub field_numbers : Fields → List ℤ
field_numbers f =
    f.year ∷ pos f.month ∷ pos f.day ∷ pos f.doy ∷ pos f.week ∷ pos f.wday ∷ pos f.nanos ∷ f.offset ∷ []

-- the day's number
abbrev pub day_number_answer : DayNumber → Answer
day_number_answer number = integer_answer number

-- the six fields of a day
abbrev pub day_answer : Day → Answer
day_answer d =
    accepted (d.year ∷ pos d.month ∷ pos d.day ∷ pos d.doy ∷ pos d.week ∷ pos d.wday ∷ [])

-- the fields of a stamp, and 1 where its offset is unknown
abbrev pub stamp_numbers : Stamp → List ℤ
stamp_numbers t = t.year ∷ pos t.month ∷ pos t.day ∷ pos t.nanos ∷ t.offset ∷ pos (when t.unknown 1 0) ∷ []

abbrev pub stamp_answer : Stamped → Answer
stamp_answer (Ok t) = accepted (stamp_numbers t)
stamp_answer (Err why) = refused why

-- 1 for yes; 0 for no, with the part and a record for which it fails
abbrev pub verdict_answer : Result Verdict Refusal → Answer
verdict_answer (Ok Yes) = accepted (pos 1 ∷ [])
verdict_answer (Ok (No part f)) = accepted (pos 0 ∷ pos part ∷ field_numbers f)
verdict_answer (Err why) = refused why

-- the first check that refuses
abbrev pub ◌else◌ : Checked → Checked → Checked
(Ok _) else next = next
(Err why) else next = Err why

infixr 20 ◌else◌
abbrev pub refuse_unless : Bool → Refusal → Checked
refuse_unless true why = Ok tt
refuse_unless false why = Err why

abbrev pub within : ℕ → ℕ → ℕ → Bool
within low high n = both (leb low n) (leb n high)

-- the place of the first byte that is not within these limits, counted on from i
unfoldable pub byte_check : (ℕ → Refusal) → ℕ → ℕ → ℕ → List ℕ → Checked
byte_check why low high i [] = Ok tt
byte_check why low high i (b ∷ s) =
    elim (within low high b) [ true ↦ byte_check why low high (suc i) s | false ↦ Err (why i) ]

-- 1, 2
unfoldable pub bytes_check : List ℕ → Checked
unfolding byte_check
bytes_check p =
    refuse_unless (leb (length p) 256) (PatternTooLong (length p)) else
    byte_check PatternByte 1 127 0 p

-- whether the last part is a quote that opens and has nothing behind it
unfoldable pub ends_in_lone_quote : List Content → Bool
ends_in_lone_quote [] = false
ends_in_lone_quote (run b n ∷ cs) = ends_in_lone_quote cs
ends_in_lone_quote (quotes n ∷ cs) = ends_in_lone_quote cs
ends_in_lone_quote (quoted s ∷ cs) = ends_in_lone_quote cs
ends_in_lone_quote (unclosed [] ∷ cs) = true
ends_in_lone_quote (unclosed (b ∷ s) ∷ cs) = false

-- 1, 2, 3
unfoldable pub pattern_check : List ℕ → Checked
unfolding bytes_check ends_in_lone_quote contents
pattern_check p =
    bytes_check p else
    when (ends_in_lone_quote (contents p)) (Err (LoneQuote (length p - 1))) (Ok tt)

-- 4: "Year -5,879,611 to 5,879,611, not 0", and so on
unfoldable pub fields_check : Fields → Checked
fields_check f =
    refuse_unless (within 1 5879611 (nat_abs f.year)) (FieldRange 1) else
    refuse_unless (within 1 12 f.month) (FieldRange 2) else
    refuse_unless (within 1 31 f.day) (FieldRange 3) else
    refuse_unless (within 1 366 f.doy) (FieldRange 4) else
    refuse_unless (within 1 53 f.week) (FieldRange 5) else
    refuse_unless (within 0 6 f.wday) (FieldRange 6) else
    refuse_unless (within 0 86399999999999 f.nanos) (FieldRange 7) else
    refuse_unless (within 0 86399 (nat_abs f.offset)) (FieldRange 8)

-- 5
abbrev pub room_check : ℕ → ℕ → Checked
room_check room n = refuse_unless (leb n room) (NoRoom n)

-- 6, 7
unfoldable pub text_check : List ℕ → Checked
unfolding byte_check
text_check s =
    refuse_unless (leb (length s) 2048) (TextTooLong (length s)) else
    byte_check TextByte 0 127 0 s

-- 14. The second edition: "also for current years 1 to 80".
abbrev pub first_current_year : Edition → ℕ
first_current_year First = 1
first_current_year Second = 81

unfoldable pub current_year_check : Edition → ℤ → Checked
current_year_check edition current =
    when (is_negative current) (Err (CurrentYear current))
    (refuse_unless (within (first_current_year edition) 9999 (nat_abs current)) (CurrentYear current))

-- 16, of a strict reading: the text that remains at a place, behind the last part
abbrev pub rest_check : Bool → ℕ → List ℕ → Checked
rest_check strict at s = when (both strict (ltb 0 (length s))) (Err (TextLeft at)) (Ok tt)
