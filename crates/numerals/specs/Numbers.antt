-- The answers of the number reader, from what the definitions' readers give.
use Rattle.std.specs.Prelude.{List, ℕ, ◌+◌, ◌*◌, ◌-◌, get_or, Result, Ok, Err}
use Rattle.std.proofs.Math.Option.{Option, none, some}
use Rattle.meaning.specs.Numerals.{Signed}
use Rattle.meaning.specs.Readers.{Got, got, stopped}
use Rattle.meaning.specs.declared.Trouble.{Trouble}
use Rattle.meaning.specs.declared.Trouble.TheVariants.{NoNumber}
use Rattle.numerals.specs.declared.Number.{Number}

abbrev pub signed : Signed → Number
signed n = record { negative = n.negative; size = n.size }

abbrev pub number_in : Option Signed → Result Number Trouble
number_in none = Err NoNumber
number_in (some n) = Ok (signed n)

abbrev pub got_number : Got Signed → Result Number Trouble
got_number (got k n) = Ok (signed n)
got_number (stopped why i) = Err why

-- two digits at a place, as a number
abbrev pub pair_at : ℕ → List ℕ → ℕ
pair_at at s = (get_or s at 0 - 48) * 10 + (get_or s (at + 1) 0 - 48)
