-- Specification, "Answer numbers", "values by unit with the last part winning": of the parts that gave a unit, the newest is the one
-- whose value and bytes a reading has.
use mathlib.Core.List.{List, ◌∷◌}
use mathlib.Core.Path.{◌≡◌, refl}
use Prim.Native.Nat.{ℕ}
use borrow.Author.Tests.{eq-eqb}
use lib.IntN.{ℤ}
use Rattle.meaning.specs.Reading.{value}
use Rattle.meaning.specs.Whole.{Gave, unit_number, last_of, value_of, began_at, ended_at}
use Rattle.meaning.specs.declared.ParseUnit.{ParseUnit}

module _ (u : ParseUnit) (z : ℤ) (start end : ℕ) (gave : List Gave) where
  abbrev all : List Gave
  all = record { carried = value u z; start = start; end = end } ∷ gave

  pub last-wins : (value_of all (unit_number u) ≡ z) × (began_at all (unit_number u) ≡ start) × (ended_at all (unit_number u) ≡ end)
  unfolding last_of
  last-wins = let same = eq-eqb (unit_number u) (unit_number u) refl in (rw same, rw same, rw same)
