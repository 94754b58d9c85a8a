-- Demand 3 of two half patterns: the check of the first, before two bytes that begin as the second can, and then that of the
-- second. That this is the check of the join is in proofs/Halves.
use Rattle.std.specs.Prelude.{Bool, false, List, [], ◌∷◌, ◌++◌, ℕ, ◌+◌, ℤ, Result, Ok, Err}
use Prim.Native.Char.{code}
use Rattle.meaning.specs.Bytes.{when}
use Rattle.meaning.specs.Trust.{trust_check}
use Rattle.meaning.specs.Whole.{Gave}
use Rattle.meaning.specs.Writing.{Step, literal, steps}
use Rattle.meaning.specs.declared.Edition.{Edition}
use Rattle.meaning.specs.declared.Pair.TheVariants.{Full}
use Rattle.meaning.specs.declared.Refusal.{Refusal}
use Rattle.meaning.specs.declared.Verdict.{Verdict}
use Rattle.meaning.specs.declared.Verdict.TheVariants.{Yes, No}
use Rattle.trust.specs.Ahead.{digit_first, digit_second}
use Rattle.trust.specs.Check.{first_failing, verdict_by}

-- a digit or none
abbrev pub mark : Bool → ℕ
mark digit = when digit (code "0") (code "/")

-- two bytes that stand for these parts: each is a digit where it can be one
unfoldable pub stand_in : List Step → List Step
unfolding digit_first digit_second
stand_in ss = literal (mark (digit_first ss) ∷ mark (digit_second ss) ∷ []) false ∷ []

-- the answer of the check for a pattern with these parts behind it
unfoldable pub verdict_before : Edition → List Step → List ℕ → ℤ → Result Verdict Refusal
unfolding trust_check first_failing steps
verdict_before edition ss p current = verdict_by (trust_check edition p current) (first_failing edition 0 (steps Full p ++ ss))

-- what is said of parts with so many others before them, and the answer
abbrev pub later : ℕ → Verdict → Verdict
later k Yes = Yes
later k (No part f) = No (k + part) f

abbrev pub later_answer : ℕ → Result Verdict Refusal → Result Verdict Refusal
later_answer k (Ok verdict) = Ok (later k verdict)
later_answer k (Err why) = Err why

-- the first of two that is no yes
abbrev pub and_then : Verdict → Verdict → Verdict
and_then Yes next = next
and_then (No part f) next = No part f

abbrev pub and_then_answer : Result Verdict Refusal → Result Verdict Refusal → Result Verdict Refusal
and_then_answer (Ok Yes) next = next
and_then_answer (Ok (No part f)) next = Ok (No part f)
and_then_answer (Err why) next = Err why

-- what a part gave, of a text with so many bytes more before it
abbrev pub further_on : ℕ → Gave → Gave
further_on k g = record { carried = g.carried; start = k + g.start; end = k + g.end }
