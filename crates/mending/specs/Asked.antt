-- Of which part the check is asked how many spaces a part needs. Of the part itself, whose need also says that it has an own change,
-- and needs none after it; but yy becomes yyyy, which needs what its second y needs by itself.
use Prim.Native.Char.{code}
use Rattle.std.specs.Prelude.{ℕ, eqb}
use Rattle.meaning.specs.Bytes.{when, both}

-- how many bytes of a part are passed over, by its first byte and its length
abbrev pub passed_over : ℕ → ℕ → ℕ
passed_over b n = when (both (eqb b (code "y")) (eqb n 2)) 1 0
