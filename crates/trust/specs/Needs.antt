-- Demand 3: what a part needs of the text behind it, so that it comes back for every record. The specification says how each symbol
-- is written and read; the need is what the two leave open.
use Rattle.std.specs.Prelude.{Bool, ℕ, leb, ltb}
use Rattle.meaning.specs.Bytes.{when}
use Rattle.meaning.specs.Reading.{most_read}
use Rattle.meaning.specs.Writing.{Step, literal, field}
use Rattle.meaning.specs.declared.Edition.{Edition}
use Rattle.meaning.specs.declared.Group.{Group}
use Rattle.meaning.specs.declared.Group.TheVariants.{Never, NotZero, Always}
use Rattle.meaning.specs.declared.Quantity.{Quantity}
use Rattle.meaning.specs.declared.Rule.{Rule}
use Rattle.meaning.specs.declared.Rule.TheVariants.{Number, SkippedNumber, LetterQuarter, SkippedName, MatchedName, Letters, Years, FixedYear, TwoDigitYear, Zone}
use Rattle.laws.specs.Widths.{most_digits}
use Rattle.trust.specs.declared.Need.{Need}
use Rattle.trust.specs.declared.Need.TheVariants.{Nothing, NoDigit, NoSecondDigit, Broken, LosesYear}

-- A number with more digits than a read takes is cut: single M in the first edition. One read by a least count takes a digit that follows it.
abbrev pub number_need : Quantity → ℕ → ℕ → Need
number_need q least most = when (ltb most (most_digits q)) Broken (when (ltb least most) NoDigit Nothing)

-- A group that is missing is taken for there where its first digit would stand: next, or behind the colon, one byte further.
abbrev pub group_need : Bool → Group → Need
group_need colon Never = Nothing
group_need colon NotZero = when colon NoSecondDigit NoDigit
group_need colon Always = Nothing

-- the last group that a zone can have
abbrev pub last_group : Group → Group → Group
last_group minutes Never = minutes
last_group minutes NotZero = NotZero
last_group minutes Always = Always

-- "years have up to seven digits, so 7 is the first count from 5 up that always does"; yy loses all but two digits
unfoldable pub rule_need : Edition → Rule → Need
unfolding most_digits most_read
rule_need edition (Number q least most u z) = number_need q least (most_read edition q most)
rule_need edition (SkippedNumber q least most) = number_need q least most
rule_need edition LetterQuarter = Nothing
rule_need edition (SkippedName l n) = Nothing
rule_need edition (MatchedName l) = Nothing
rule_need edition (Letters l n) = Nothing
rule_need edition (Years k) = NoDigit
rule_need edition (FixedYear k) = when (leb 7 k) Nothing LosesYear
rule_need edition TwoDigitYear = LosesYear
rule_need edition (Zone zone) = group_need zone.colon (last_group zone.minutes zone.seconds)

-- "`'abc''` writes abc, yet a read skips 4 bytes"
unfoldable pub step_need : Edition → Step → Need
unfolding rule_need
step_need edition (literal s lost) = when lost Broken Nothing
step_need edition (field rule) = rule_need edition rule
