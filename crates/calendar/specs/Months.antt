-- The months of a year by arithmetic: as if February had 30 days.
use Rattle.std.specs.Prelude.{Bool, ℕ, ◌+◌, ◌-◌, ltb}
use Rattle.meaning.specs.Bytes.{when}

-- the days that February has less
abbrev pub lost : Bool → ℕ
lost l = when l 1 2

-- so many days of a year past, as if it had them
abbrev pub stretched_past : Bool → ℕ → ℕ
stretched_past l past = when (ltb past (61 - lost l)) past (past + lost l)
