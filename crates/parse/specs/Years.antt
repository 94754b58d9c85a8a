-- What so many bytes of a year give.
use Rattle.std.specs.Prelude.{ℕ, ◌+◌, ◌-◌, leb, ℤ, pos, nat_abs, ◌+ℤ◌, Option}
use Rattle.meaning.specs.Bytes.{when}
use Rattle.meaning.specs.Readers.{Reader, ◌>>=◌, done, take_year}
use Rattle.meaning.specs.Reading.{year, minus_first, year_length, millennium, year_from, taken_year}
use Rattle.meaning.specs.declared.Carried.{Carried}
use Rattle.meaning.specs.declared.Edition.{Edition}
use Rattle.meaning.specs.declared.Edition.TheVariants.{First, Second}

-- counted from one: in the first edition so many years on, in the second the first year from it on that ends so
abbrev pub counted : Edition → ℕ → ℤ → ℤ
counted First since z = z +ℤ pos since
counted Second since z = pos (year_from since (nat_abs z))

abbrev pub year_since : Edition → ℕ → ℕ → Reader (Option Carried)
year_since edition since k = take_year k >>= λ z. done (year (counted edition since z))

-- from which one yy counts; a year in full counts from 0, as the first edition does
abbrev pub short_since : Edition → ℕ → ℕ
short_since First current = millennium current
short_since Second current = current - 80

-- y, more than twice: up to four reads all digits that follow, more just as many
abbrev pub long_year_read : ℕ → Reader (Option Carried)
long_year_read c s = taken_year (when (leb c 4) (year_length s) (minus_first s + c)) s
