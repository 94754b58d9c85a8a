-- Demand 3: the check. A part holds where what can follow it meets its need; the first that does not is shown with a record
-- for which it fails; and the whole answer, "the check 1, 2, 3, 14" first.
use Rattle.std.specs.Prelude.{Bool, true, false, not, List, [], ◌∷◌, map, ℕ, suc, ◌-◌, ltb, ℤ, pos, neg_ℤ, Option, Some, None, Result, Ok, Err}
use Rattle.meaning.specs.Splitting.{Content, length_of}
use Rattle.meaning.specs.Trust.{trust_check}
use Rattle.meaning.specs.Writing.{Step, step_of, steps}
use Rattle.meaning.specs.Results.{Checked}
use Rattle.meaning.specs.declared.Edition.{Edition}
use Rattle.meaning.specs.declared.Fields.{Fields}
use Rattle.meaning.specs.declared.Pair.TheVariants.{Full}
use Rattle.meaning.specs.declared.Refusal.{Refusal}
use Rattle.meaning.specs.declared.Verdict.{Verdict}
use Rattle.meaning.specs.declared.Verdict.TheVariants as verdict
use Rattle.trust.specs.Ahead.{digit_first, digit_second}
use Rattle.trust.specs.Needs.{step_need}
use Rattle.trust.specs.declared.Need.{Need}
use Rattle.trust.specs.declared.Need.TheVariants.{Nothing, NoDigit, NoSecondDigit, Broken, LosesYear}
use Rattle.trust.specs.declared.Unmet.{Unmet}

-- whether what these parts can write meets a need
unfoldable pub meets : Need → List Step → Bool
unfolding digit_first digit_second
meets Nothing behind = true
meets NoDigit behind = not (digit_first behind)
meets NoSecondDigit behind = not (digit_second behind)
meets Broken behind = false
meets LosesYear behind = false

-- Three records show every failure. Each is a real day (`RealDays` of proofs/), and the numbers of each differ from each other. The
-- first is Monday, 5 February 2024, at 3:04:07, eight hours ahead: each of its numbers has fewer digits than a greedy read takes.
abbrev pub short_numbers : Fields
short_numbers =
    record { year = pos 2024; month = 2; day = 5; doy = 36; week = 6; wday = 1; nanos = 11047000000000; offset = pos 28800 }

-- The second is Saturday, 23 November 2024, at 22:38:59, nine hours behind: each of its numbers but the year has as many digits as
-- it can have.
abbrev pub long_numbers : Fields
long_numbers =
    record {
      year = pos 2024;
      month = 11;
      day = 23;
      doy = 328;
      week = 47;
      wday = 6;
      nanos = 81539000000000;
      offset = neg_ℤ (pos 32400);
    }

-- The third is Friday, 23 November of the year 1,000,001, at the same time: the year too has as many digits as it can have.
abbrev pub long_year : Fields
long_year =
    record {
      year = pos 1000001;
      month = 11;
      day = 23;
      doy = 327;
      week = 47;
      wday = 5;
      nanos = 81539000000000;
      offset = neg_ℤ (pos 32400);
    }

-- The record that shows a failure: a digit that follows is taken for a short number's own, a long number is cut, only a long
-- number has a second digit, and only a long year loses digits.
abbrev pub witness : Need → Fields
witness Nothing = long_numbers
witness NoDigit = short_numbers
witness NoSecondDigit = long_numbers
witness Broken = long_numbers
witness LosesYear = long_year

-- the first of these parts that does not hold, counted on from i
unfoldable pub first_failing : Edition → ℕ → List Step → Verdict
unfolding step_need meets
first_failing edition i [] = verdict.Yes
first_failing edition i (s ∷ ss) =
    elim (meets (step_need edition s) ss) [
      | true ↦ first_failing edition (suc i) ss
      | false ↦ verdict.No i (witness (step_need edition s))
    ]

abbrev pub unmet_at : ℕ → Need → Unmet
unmet_at part need = record { part = part; need = need }

-- the same of the parts that start in the next n bytes, with the need that is not met; of all parts, `shown` is what the check
-- answers (`shown-failing` of proofs/Turns)
unfoldable pub first_unmet : Edition → ℕ → ℕ → List Content → Option Unmet
unfolding step_of step_need meets length_of
first_unmet edition n i [] = None
first_unmet edition n i (c ∷ cs) =
    elim (ltb 0 n) [
      | true ↦
          elim (meets (step_need edition (step_of Full c)) (map (step_of Full) cs)) [
            | true ↦ first_unmet edition (n - length_of c) (suc i) cs
            | false ↦ Some (unmet_at i (step_need edition (step_of Full c)))
          ]
      | false ↦ None
    ]

abbrev pub shown : Option Unmet → Verdict
shown None = verdict.Yes
shown (Some unmet) = verdict.No unmet.part (witness unmet.need)

-- a refusal, or else what is found of the parts
abbrev pub verdict_by : Checked → Verdict → Result Verdict Refusal
verdict_by (Ok _) answer = Ok answer
verdict_by (Err why) answer = Err why

-- the answer of the check, of the full pair in an edition: yes, or no with the part from 0 and the record
unfoldable pub verdict_of : Edition → List ℕ → ℤ → Result Verdict Refusal
unfolding trust_check first_failing steps
verdict_of edition p current = verdict_by (trust_check edition p current) (first_failing edition 0 (steps Full p))
