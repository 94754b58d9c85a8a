-- Specification, "Sheet samples": the line that the program prints for a pattern.
use Rattle.std.specs.Prelude.{List, [], ◌∷◌, ◌++◌, ℕ, ◌≤◌, pos, Result, Ok, Err}
use Rattle.laws.specs.Laid.{Laid}
use Rattle.meaning.specs.Answers.{number}
use Rattle.meaning.specs.Bytes.{bytes, num}
use Rattle.meaning.specs.Trust.{Says}
use Rattle.meaning.specs.declared.Edition.TheVariants.{First}
use Rattle.meaning.specs.declared.Refusal.{Refusal}
use Rattle.meaning.specs.declared.Verdict.{Verdict}
use Rattle.meaning.specs.declared.Verdict.TheVariants.{Yes, No}

-- a part's number has at most five digits
abbrev pub PartFits : Result Verdict Refusal → Type 0
PartFits (Ok Yes) = Unit
PartFits (Ok (No part f)) = part ≤ 65536
PartFits (Err why) = Unit

-- "`yes`, `no P` with P the part, or `refused N`"
unfoldable pub verdict_text : Result Verdict Refusal → List ℕ
unfolding bytes num number
verdict_text (Ok Yes) = bytes "yes"
verdict_text (Ok (No part f)) = bytes "no " ++ num 1 part
verdict_text (Err why) = bytes "refused " ++ num 1 (number why)

abbrev pub line_of : Result Verdict Refusal → List ℕ
line_of v = verdict_text v ++ (10 ∷ [])

-- the line of a verdict that the check can give on the pattern, in the first edition and the "current year 2025", lies at the start of the output
pub record Printed (p old new : List ℕ) (r : ℕ) : Type 0 where
  pub verdict : Result Verdict Refusal
  pub says : Says First p (pos 2025) verdict
  pub laid : Laid old new 0 r (line_of verdict)
