-- A list with one more change; as often as before is none.
use Rattle.std.specs.Prelude.{List, ℕ, ◌+◌, eqb}
use Rattle.meaning.specs.Bytes.{when}
use Rattle.meaning.specs.declared.Change.{Change}
use Rattle.meaning.specs.declared.Changes.{Changes}
use lib.ListN.{set}

abbrev pub list_of : List Change → ℕ → Changes
list_of cs n = record { listed = cs; used = n }

abbrev pub with_change : Changes → Change → Changes
with_change list c = when (eqb c.before c.after) list (list_of (set list.listed list.used c) (list.used + 1))
