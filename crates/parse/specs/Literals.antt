-- How a part that has been read compares with the text before the place where it ended, for a strict reading: Readers.same of the
-- definitions, from the end. That the two agree is the law `compared-read` of proofs/literals/Strict.
use Rattle.std.specs.Prelude.{Option, Some, None, List, ℕ, ◌-◌, ◌≤◌, length, drop}
use Rattle.std.proofs.Math.Option.{none, some}
use Rattle.std.proofs.Math.Option as maths
use Rattle.meaning.specs.Readers.{first_differing}
use Rattle.meaning.specs.Writing.{Step, literal, field}

-- the bytes that a literal stands for end there in a text of so many
abbrev pub Ended : Step → ℕ → ℕ → Type 0
Ended (literal w lost) size end = (length w ≤ end) × (end ≤ size)
Ended (field rule) size end = Unit

abbrev pub compared_by : maths.Option ℕ → Option ℕ
compared_by none = None
compared_by (some place) = Some place

abbrev pub compared_from : ℕ → List ℕ → List ℕ → Option ℕ
compared_from at w text = compared_by (first_differing at w (drop at text))

-- a symbol stands for no bytes of its own
abbrev pub compared : Step → List ℕ → ℕ → Option ℕ
compared (literal w lost) text end = compared_from (end - length w) w text
compared (field rule) text end = None
