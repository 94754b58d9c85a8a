-- Zones as the Rust writes them, with the sign by the offset alone, so that -30 seconds can be -00:00: kept to say which texts
-- demand 2 excepts. The code cites nothing of this; the theorems are in `Minus` of laws.
use Rattle.std.specs.Prelude.{Bool, true, false, List, [], ◌∷◌, ◌≡◌, ℕ, eqb, ltb, ℤ, nat_abs}
use Prim.Native.Char.{code}
use Rattle.meaning.specs.Bytes.{when, both, minus, plus}
use Rattle.meaning.specs.Rules.{zoned}
use Rattle.meaning.specs.Writing.{is_negative, offset_digits, all_zero}
use Rattle.meaning.specs.declared.Group.{Group}
use Rattle.meaning.specs.declared.Role.{Role}
use Rattle.meaning.specs.declared.Role.TheVariants as role

unfoldable pub rust_offset_text : Bool → Group → Group → ℤ → List ℕ
rust_offset_text c minutes seconds z = when (is_negative z) minus plus ∷ offset_digits c minutes seconds (nat_abs z)

abbrev pub rust_zone_text : Bool → Bool → Group → Group → ℤ → List ℕ
rust_zone_text utc c minutes seconds z =
    when (both utc (eqb (nat_abs z) 0)) (code "Z" ∷ []) (rust_offset_text c minutes seconds z)

-- what is excepted: the offset is below zero, and every digit written for it is zero
unfoldable pub minus_nothing : Bool → Group → Group → ℤ → Bool
minus_nothing c minutes seconds z = both (is_negative z) (all_zero (offset_digits c minutes seconds (nat_abs z)))

-- the same for a count of X or x: an offset from -59 to -1, at all counts but 4 and 5, which write seconds
abbrev pub cuts_seconds : ℕ → Bool
cuts_seconds count = when (eqb count 4) false (when (eqb count 5) false true)

abbrev pub excepted_at : ℕ → ℤ → Bool
excepted_at count z = both (is_negative z) (both (cuts_seconds count) (ltb (nat_abs z) 60))

-- what that many X or x do: they write a zone, and these are its excepted offsets
pub record ExceptedZone (utc : Bool) (count : ℕ) (does : Role) : Type 0 where
  pub colon : Bool
  pub minutes : Group
  pub seconds : Group
  pub is-zone : does ≡ role.Symbol (zoned utc colon minutes seconds)
  pub range : (z : ℤ) → minus_nothing colon minutes seconds z ≡ excepted_at count z
