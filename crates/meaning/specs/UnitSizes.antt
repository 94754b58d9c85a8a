-- Specification, "What is carried over": the unit sizes of constants.rs.
use Rattle.std.specs.Prelude.{ℕ}

abbrev pub nanos_per_second : ℕ
nanos_per_second = 1000000000

abbrev pub seconds_per_hour : ℕ
seconds_per_hour = 3600

abbrev pub seconds_per_minute : ℕ
seconds_per_minute = 60
