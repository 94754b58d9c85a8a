-- What a match in a list of names gives at a cursor.
use Rattle.std.specs.Prelude.{ℕ, ◌<◌, Option, Result, Ok, Err}
use Rattle.meaning.specs.Reading.{name_carries}
use Rattle.meaning.specs.declared.Carried.{Carried}
use Rattle.meaning.specs.declared.NameList.{NameList}
use Rattle.parse.specs.declared.cursor.Read.{Read}
use Rattle.parse.specs.declared.cursor.Stop.{Stop}

abbrev pub named_by : NameList → Result (Read ℕ) Stop → Result (Read (Option Carried)) Stop
named_by l (Err stopped) = Err stopped
named_by l (Ok name) = Ok (record { value = name_carries l name.value; next = name.next })

-- its place must be one of the list
abbrev pub IndexBelow : ℕ → Result (Read ℕ) Stop → Type 0
IndexBelow n (Err stopped) = Unit
IndexBelow n (Ok name) = name.value < n
