-- Demand 3: what the parts behind a part can give. Every part writes a byte at least, so the next part says whether the first
-- byte can be a digit, and the next two say it of the second.
use Rattle.std.specs.Prelude.{Bool, true, false, List, [], ◌∷◌, ℕ, ltb, length}
use Rattle.meaning.specs.Bytes.{when, both, digit_at}
use Rattle.meaning.specs.Writing.{Step, literal, field}
use Rattle.meaning.specs.declared.NameList.{NameList}
use Rattle.meaning.specs.declared.NameList.TheVariants.{EraAbbreviated, EraNarrow, EraWide, QuarterWide, MonthAbbreviated, MonthWide, MonthNarrow, WdayAbbreviated, WdayWide, WdayNarrow, WdayShort, PeriodUpper, PeriodLower, PeriodDotted, PeriodLetter, NoonUpper, NoonLower, NoonDotted, NoonLetter}
use Rattle.meaning.specs.declared.Quantity.{Quantity}
use Rattle.meaning.specs.declared.Rule.{Rule}
use Rattle.meaning.specs.declared.Rule.TheVariants.{Number, SkippedNumber, LetterQuarter, SkippedName, MatchedName, Letters, Years, FixedYear, TwoDigitYear, Zone}
use Rattle.trust.specs.declared.Opening.{Opening}
use Rattle.trust.specs.declared.Opening.TheVariants.{Digit, OneLetter, Word}
use Rattle.laws.specs.Widths.{most_digits}

-- how English names begin: "1st quarter", 2nd, 3rd, 4th with a digit; some lists have names of one byte, which may be among
-- longer ones
unfoldable pub opening : NameList → Opening
opening EraAbbreviated = Word
opening EraNarrow = OneLetter
opening EraWide = Word
opening QuarterWide = Digit
opening MonthAbbreviated = Word
opening MonthWide = Word
opening MonthNarrow = OneLetter
opening WdayAbbreviated = Word
opening WdayWide = Word
opening WdayNarrow = OneLetter
opening WdayShort = Word
opening PeriodUpper = Word
opening PeriodLower = Word
opening PeriodDotted = Word
opening PeriodLetter = OneLetter
opening NoonUpper = Word
opening NoonLower = Word
opening NoonDotted = Word
opening NoonLetter = OneLetter

unfoldable pub name_first : NameList → Bool
unfolding opening
name_first l = elim (opening l) [ Digit ↦ true | OneLetter ↦ false | Word ↦ false ]

unfoldable pub has_letters : NameList → Bool
unfolding opening
has_letters l = elim (opening l) [ Digit ↦ false | OneLetter ↦ true | Word ↦ false ]

-- a name of one byte leaves the second to what is behind it
abbrev pub name_second : NameList → Bool → Bool
name_second l behind = both (has_letters l) behind

-- a number has a second digit, or is one digit for every record
abbrev pub number_second : Quantity → ℕ → Bool → Bool
number_second q least behind = when (both (ltb least 2) (ltb (most_digits q) 2)) behind true

-- whether a symbol's first byte can be a digit, and its second, where `behind` says it of the byte behind its text
unfoldable pub rule_first : Rule → Bool
unfolding name_first
rule_first (Number q least most u z) = true
rule_first (SkippedNumber q least most) = true
rule_first LetterQuarter = false
rule_first (SkippedName l n) = name_first l
rule_first (MatchedName l) = name_first l
rule_first (Letters l n) = name_first l
rule_first (Years k) = true
rule_first (FixedYear k) = true
rule_first TwoDigitYear = true
rule_first (Zone zone) = false

unfoldable pub rule_second : Rule → Bool → Bool
unfolding has_letters most_digits
rule_second (Number q least most u z) behind = number_second q least behind
rule_second (SkippedNumber q least most) behind = number_second q least behind
rule_second LetterQuarter behind = true
rule_second (SkippedName l n) behind = name_second l behind
rule_second (MatchedName l) behind = name_second l behind
rule_second (Letters l n) behind = name_second l behind
rule_second (Years k) behind = true
rule_second (FixedYear k) behind = true
rule_second TwoDigitYear behind = true
rule_second (Zone zone) behind = true

-- The same of a part. What an unclosed one loses is a quote at the end of all, so no digit.
unfoldable pub step_first : Step → Bool
unfolding rule_first digit_at
step_first (literal s lost) = digit_at 0 s
step_first (field rule) = rule_first rule

unfoldable pub step_second : Step → Bool → Bool
unfolding rule_second digit_at
step_second (literal s lost) behind = when (ltb (length s) 2) behind (digit_at 1 s)
step_second (field rule) behind = rule_second rule behind

-- whether the first byte, or the second, of what these parts write can be a digit
unfoldable pub digit_first : List Step → Bool
unfolding step_first
digit_first [] = false
digit_first (s ∷ ss) = step_first s

unfoldable pub digit_second : List Step → Bool
unfolding step_second digit_first
digit_second [] = false
digit_second (s ∷ ss) = step_second s (digit_first ss)
