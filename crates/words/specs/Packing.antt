-- Request [11]: the words that a pattern is prepared into: one for each part, then joined where a byte follows a number or three numbers follow
-- one another. That they stand for the pattern's steps is the law `packed-stands` of proofs/PackedWords.
use Rattle.std.specs.Prelude.{Bool, true, false, List, [], ◌∷◌, ◌++◌, ℕ, ◌+◌, ◌-◌, ◌*◌, ◌%◌, eqb, ltb, length}
use Rattle.meaning.specs.Bytes.{when, both, quote}
use Rattle.meaning.specs.Rules.{role_of}
use Rattle.meaning.specs.Splitting.{Content, run, quotes, quoted, unclosed, contents}
use Rattle.meaning.specs.Whole.{unit_number}
use Rattle.meaning.specs.Writing.{ends_in_quote}
use Rattle.meaning.specs.declared.Group.{Group}
use Rattle.meaning.specs.declared.Group.TheVariants.{Never, NotZero, Always}
use Rattle.meaning.specs.declared.NameList.{NameList}
use Rattle.meaning.specs.declared.NameList.TheVariants.{EraAbbreviated, EraNarrow, EraWide, QuarterWide, MonthAbbreviated, MonthWide, MonthNarrow, WdayAbbreviated, WdayWide, WdayNarrow, WdayShort, PeriodUpper, PeriodLower, PeriodDotted, PeriodLetter, NoonUpper, NoonLower, NoonDotted, NoonLetter}
use Rattle.meaning.specs.declared.Pair.{Pair}
use Rattle.meaning.specs.declared.Quantity.{Quantity}
use Rattle.meaning.specs.declared.Quantity.TheVariants.{Month, Quarter, Week, Day, DayOfYear, Weekday, WeekdayFromMonday, Hour1To12, Hour0To11, Hour0To23, Hour1To24, Minute, Second, Fraction}
use Rattle.meaning.specs.declared.Role.{Role}
use Rattle.meaning.specs.declared.Role.TheVariants as role
use Rattle.meaning.specs.declared.Rule.{Rule}
use Rattle.meaning.specs.declared.Rule.TheVariants.{Number, SkippedNumber, LetterQuarter, SkippedName, MatchedName, Letters, Years, FixedYear, TwoDigitYear, Zone}
use Rattle.words.specs.Fields.{code, last_byte}

-- the numbers that Coding gives back

abbrev pub quantity_number : Quantity → ℕ
quantity_number Month = 0
quantity_number Quarter = 1
quantity_number Week = 2
quantity_number Day = 3
quantity_number DayOfYear = 4
quantity_number Weekday = 5
quantity_number WeekdayFromMonday = 6
quantity_number Hour1To12 = 7
quantity_number Hour0To11 = 8
quantity_number Hour0To23 = 9
quantity_number Hour1To24 = 10
quantity_number Minute = 11
quantity_number Second = 12
quantity_number (Fraction k) = 13

abbrev pub list_number : NameList → ℕ
list_number EraAbbreviated = 0
list_number EraNarrow = 1
list_number EraWide = 2
list_number QuarterWide = 3
list_number MonthAbbreviated = 4
list_number MonthWide = 5
list_number MonthNarrow = 6
list_number WdayAbbreviated = 7
list_number WdayWide = 8
list_number WdayNarrow = 9
list_number WdayShort = 10
list_number PeriodUpper = 11
list_number PeriodLower = 12
list_number PeriodDotted = 13
list_number PeriodLetter = 14
list_number NoonUpper = 15
list_number NoonLower = 16
list_number NoonDotted = 17
list_number NoonLetter = 18

abbrev pub group_number : Group → ℕ
group_number Never = 0
group_number NotZero = 1
group_number Always = 2

abbrev pub bit : Bool → ℕ
bit true = 1
bit false = 0

-- the slot of a number that patterns have most; 5 for any other
abbrev pub slot_number : Quantity → ℕ
slot_number Month = 0
slot_number Quarter = 5
slot_number Week = 5
slot_number Day = 1
slot_number DayOfYear = 5
slot_number Weekday = 5
slot_number WeekdayFromMonday = 5
slot_number Hour1To12 = 5
slot_number Hour0To11 = 5
slot_number Hour0To23 = 2
slot_number Hour1To24 = 5
slot_number Minute = 3
slot_number Second = 4
slot_number (Fraction k) = 5

-- one of these by itself: two digits, or one or two
abbrev pub slot_word : ℕ → ℕ → ℕ
slot_word slot least = when (eqb least 2) 3 4 + 32 * slot

-- the word of a rule, where no byte is behind it
unfoldable pub rule_word : Rule → ℕ
rule_word (Number q least most u z) =
    when (ltb (slot_number q) 5) (slot_word (slot_number q) least)
    (22 + 512 * quantity_number q + 16384 * least + 262144 * most + 4194304 * unit_number u + 67108864 * z)
rule_word (SkippedNumber q least most) = 54 + 512 * quantity_number q + 16384 * least + 262144 * most
rule_word LetterQuarter = 86
rule_word (SkippedName l n) = 118 + 512 * list_number l + 2147483648 * n
rule_word (MatchedName l) = 150 + 512 * list_number l
rule_word (Letters l n) = 182 + 512 * list_number l + 2147483648 * n
rule_word (Years k) = 9 + 32 * k
rule_word (FixedYear k) = 29 + 32 * k
rule_word TwoDigitYear = 214
rule_word (Zone zone) =
    246 + 17179869184 * bit zone.utc + 34359738368 * bit zone.colon + 68719476736 * group_number zone.minutes
    + 274877906944 * group_number zone.seconds

-- a byte by itself, and one that stands so often
abbrev pub byte_word : ℕ → ℕ
byte_word b = 1 + 72057594037927936 * b

abbrev pub times_word : ℕ → ℕ → ℕ
times_word b n = when (eqb n 1) (byte_word b) (30 + 32 * n + 72057594037927936 * b)

abbrev pub role_word : Role → ℕ → ℕ → ℕ
role_word role.Literal b n = times_word b n
role_word (role.Symbol rule) b n = rule_word rule

-- An inside is held in the row from a place on; just one byte of it that is not lost is a word by itself.
abbrev pub is_one : List ℕ → Bool → Bool
is_one s lost = both (eqb (length s) 1) (when lost false true)

abbrev pub first_of : List ℕ → ℕ
first_of [] = 0
first_of (b ∷ s) = b

abbrev pub held_word : ℕ → List ℕ → Bool → ℕ
held_word at s lost = when (is_one s lost) (byte_word (first_of s)) (31 + 32 * length s + 16384 * at + 8388608 * bit lost)

abbrev pub held_inside : List ℕ → Bool → List ℕ
held_inside s lost = when (is_one s lost) [] s

-- what a part holds in the row, and its word, where that starts at a place
unfoldable pub held_in : Content → List ℕ
held_in (run b n) = []
held_in (quotes n) = []
held_in (quoted s) = held_inside s false
held_in (unclosed s) = held_inside s (ends_in_quote s)

unfoldable pub part_word : Pair → ℕ → Content → ℕ
unfolding rule_word
part_word pair at (run b n) = role_word (role_of pair b n) b n
part_word pair at (quotes n) = times_word quote n
part_word pair at (quoted s) = held_word at s false
part_word pair at (unclosed s) = held_word at s (ends_in_quote s)

-- The words of the parts, one each. What a part holds lies before what those before it hold; they start at a place.
unfoldable pub part_words : Pair → ℕ → List Content → List ℕ
unfolding part_word held_in
part_words pair at [] = []
part_words pair at (c ∷ cs) = part_word pair (at - length (held_in c)) c ∷ part_words pair (at - length (held_in c)) cs

unfoldable pub held_of : List Content → List ℕ
unfolding held_in
held_of [] = []
held_of (c ∷ cs) = held_of cs ++ held_in c

-- A byte by itself joins the word before it, where that has room for one.
abbrev pub is_number : ℕ → Bool
is_number c =
    when (eqb c 3) true
    (when (eqb c 4) true (when (eqb c 9) true (when (eqb c 10) true (when (eqb c 15) true (eqb c 22)))))

abbrev pub joins_byte : ℕ → ℕ → Bool
joins_byte w byte =
    both (both (ltb w 72057594037927936) (is_number (code w))) (both (eqb (byte % 72057594037927936) 1) (ltb 0 (last_byte byte)))

abbrev pub with_byte : ℕ → ℕ → ℕ
with_byte w byte = w + (byte - 1)

-- Three numbers that follow one another with a byte between them are one word: yyyy, MM and dd; HH, mm and ss.
abbrev pub with_bytes : ℕ → ℕ → ℕ → ℕ → Bool
with_bytes first second a b =
    both (both (eqb (a % 72057594037927936) first) (ltb 0 (last_byte a))) (both (eqb (b % 72057594037927936) second) (ltb 0 (last_byte b)))

abbrev pub is_date : ℕ → ℕ → ℕ → Bool
is_date a b c = both (eqb c 35) (with_bytes 137 3 a b)

abbrev pub is_time : ℕ → ℕ → ℕ → Bool
is_time a b c = both (eqb c 131) (with_bytes 67 99 a b)

abbrev pub three_word : ℕ → ℕ → ℕ → ℕ
three_word kind a b = kind + 1099511627776 * last_byte a + 281474976710656 * last_byte b

-- a word that is kept, where it is one
abbrev pub kept : ℕ → List ℕ → List ℕ
kept w ws = when (eqb w 0) ws (w ∷ ws)

-- the words joined, behind two that can still be
unfoldable pub joined : ℕ → ℕ → List ℕ → List ℕ
joined a b [] = kept a (kept b [])
joined a b (w ∷ ws) =
    elim (joins_byte b w) [
      | true ↦ joined a (with_byte b w) ws
      | false ↦ elim (is_date a b w) [
        | true ↦ joined 0 (three_word 15 a b) ws
        | false ↦ elim (is_time a b w) [
          | true ↦ joined 0 (three_word 10 a b) ws
          | false ↦ kept a (joined b w ws)
        ]
      ]
    ]

-- the words of a pattern, and what its parts hold
unfoldable pub packed : Pair → List ℕ → List ℕ
unfolding part_words joined contents
packed pair p = joined 0 0 (part_words pair 256 (contents p))

unfoldable pub held_by : List ℕ → List ℕ
unfolding held_of contents
held_by p = held_of (contents p)
