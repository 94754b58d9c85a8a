-- What functions answer: what they did, or why they did not. The number and the values of each are in Answers.
use Rattle.std.specs.Prelude.{ℕ, ℤ, Result}
use Rattle.meaning.specs.declared.NotUndone.{NotUndone}
use Rattle.meaning.specs.declared.Refusal.{Refusal}
use Rattle.meaning.specs.declared.Stamp.{Stamp}

-- checks find nothing, or a refusal
abbrev pub Checked : Type 0
Checked = Result Unit Refusal

-- a writer: how many bytes it wrote
abbrev pub Wrote : Type 0
Wrote = Result ℕ Refusal

-- a list: how many lines it has
abbrev pub Listed : Type 0
Listed = Result ℕ Refusal

-- parse_offset: the seconds
abbrev pub Offset : Type 0
Offset = Result ℤ Refusal

-- day_number: the day's number
abbrev pub DayNumber : Type 0
DayNumber = Result ℤ Refusal

-- read_stamp
abbrev pub Stamped : Type 0
Stamped = Result Stamp Refusal

-- an undoing: how many bytes the pattern has again
abbrev pub Undone : Type 0
Undone = Result ℕ NotUndone
