-- Laws of the record of a reading, for a reader that keeps the values, where their parts began and ended, and the mask as it goes
-- from part to part: what they are before the first part and after one more, whether a unit was read, and that the ones count of
-- the mask is how many different units were read.
use Rattle.std.specs.Prelude.{None}
use mathlib.Core.Bool.{Bool, true, false}
use mathlib.Core.List.{List, [], ◌∷◌, map}
use mathlib.Core.Path.{◌≡◌, refl, ap, ◌∙◌}
use Prim.Native.Nat.{ℕ, zero, suc, ◌+◌, ◌*◌, ◌/◌, ◌%◌, ◌^◌, ◌<◌}
use native.Mathlib.Nat.{pow-suc}
use native.Mathlib.Omega.{arith}
use lib.Bits.{bit_or, or_step, or_zero_r}
use lib.Count.{ones, ones_step}
use lib.Dec.{eqb, eqb-zero-suc, eqb-suc-zero, eqb-suc-suc}
use lib.IntN.{ℤ, pos}
use lib.ListN.{length, set, replicate}
use lib.Pow.{pow-lt}
use Rattle.meaning.specs.Reading.{value}
use Rattle.meaning.specs.Bytes.{when}
use Rattle.laws.proofs.Marks.{entries, get-entry, half, odd, marked-bits}
use Rattle.meaning.specs.Whole.{Gave, unit_number, value_in, last_of, was_read, value_of, began_at, ended_at, fifteen, bits, how_many, marked, reading_of}
use Rattle.meaning.specs.declared.ParseUnit.{ParseUnit}
use Rattle.meaning.specs.declared.ParseUnit.TheVariants as unit
use Rattle.meaning.specs.declared.Reading.{Reading}

-- a row of the record, and the mask, for what the parts gave

abbrev row_of : {A : Type 0} → (List Gave → ℕ → A) → List Gave → List A
row_of of gave = map (of gave) fifteen

abbrev mask_of : List Gave → ℕ
mask_of gave = bits (row_of was_read gave)

pub unit-below : (u : ParseUnit) → unit_number u < 15
unit-below unit.Year = omega arith
unit-below unit.Month = omega arith
unit-below unit.DayOfMonth = omega arith
unit-below unit.DayOfYear = omega arith
unit-below unit.Hour = omega arith
unit-below unit.Period = omega arith
unit-below unit.PeriodHour = omega arith
unit-below unit.Minute = omega arith
unit-below unit.Second = omega arith
unit-below unit.Decis = omega arith
unit-below unit.Centis = omega arith
unit-below unit.Millis = omega arith
unit-below unit.Micros = omega arith
unit-below unit.Nanos = omega arith
unit-below unit.Offset = omega arith

-- one of the first n values of a function is set

set-entry : {A : Type 0} (n : ℕ) (f : ℕ → A) (a : A) (j : ℕ) → set (entries n f) j a ≡ entries n (λ k. when (eqb j k) a (f k))
unfolding entries
set-entry zero f a j = refl
set-entry (suc n) f a zero = simp eqb-zero-suc
set-entry (suc n) f a (suc j) =
    simp (eqb-suc-zero, eqb-suc-suc) (ap (λ (l : List _). f 0 ∷ l) (set-entry n (λ k. f (suc k)) a j))

-- a mask of marks: one more of them, how many they are, how large it is

pub bits-set : (marks : List Bool) (j : ℕ) → j < length marks → bit_or (bits marks) (2 ^ j) ≡ bits (set marks j true)
unfolding bits
bits-set [] j h = absurd (omega arith)
bits-set (mark ∷ marks) zero h =
    or_step (when mark 1 0 + 2 * bits marks) 1 ∙ rw (half mark (bits marks), or_zero_r) (omega arith)
bits-set (mark ∷ marks) (suc j) h =
    let p = pow-suc 2 j in
    let d : 2 ^ suc j / 2 ≡ 2 ^ j = omega arith in
    let r : 2 ^ suc j % 2 ≡ 0 = omega arith in
    or_step (when mark 1 0 + 2 * bits marks) (2 ^ suc j)
    ∙ rw (half mark (bits marks), odd mark (bits marks), d, r, bits-set marks j (omega arith)) (omega arith)

pub ones-bits : (marks : List Bool) → ones (bits marks) ≡ how_many marks
unfolding bits how_many ones
ones-bits [] = refl
ones-bits (mark ∷ marks) =
    ones_step (when mark 1 0 + 2 * bits marks) ∙ rw (half mark (bits marks), odd mark (bits marks), ones-bits marks)

pub bits_below : (marks : List Bool) → bits marks < 2 ^ length marks
unfolding bits
bits_below [] = omega arith
bits_below (true ∷ marks) = omega (arith, pow-suc 2 (length marks), bits_below marks)
bits_below (false ∷ marks) = omega (arith, pow-suc 2 (length marks), bits_below marks)

-- the finished record

pub mask_below : (gave : List Gave) → mask_of gave < 2 ^ 15
mask_below gave = bits_below (row_of was_read gave)

-- "how many different units that is": the ones count of the mask
pub units-counted : (gave : List Gave) → ones (mask_of gave) ≡ how_many (row_of was_read gave)
units-counted gave = ones-bits (row_of was_read gave)

-- "a mask with bit k set when unit k was read"
pub marked-read : (gave : List Gave) (u : ParseUnit) → marked (mask_of gave) (unit_number u) ≡ was_read gave (unit_number u)
unfolding entries
marked-read gave u =
    marked-bits (row_of was_read gave) (unit_number u) ∙ get-entry 15 (was_read gave) false (unit_number u) (unit-below u)

-- one more part that carries a value

abbrev valued : ParseUnit → ℤ → ℕ → ℕ → Gave
valued u z start end = record { carried = value u z; start = start; end = end }

module _ (gave : List Gave) (u : ParseUnit) (z : ℤ) (start end : ℕ) where
  row-set : {A : Type 0} (of : Gave → A) (other : A)
      → set (row_of (last_of of other) gave) (unit_number u) (of (valued u z start end)) ≡ row_of (last_of of other) (valued u z start end ∷ gave)
  unfolding entries last_of
  row-set of other = set-entry 15 (last_of of other gave) (of (valued u z start end)) (unit_number u)

  mask-set : bit_or (mask_of gave) (2 ^ unit_number u) ≡ mask_of (valued u z start end ∷ gave)
  mask-set = bits-set (row_of was_read gave) (unit_number u) (unit-below u) ∙ ap bits (row-set (λ g. true) false)

-- the shift, as the code makes it
shifted : (u : ParseUnit) → 1 * 2 ^ unit_number u % 65536 ≡ 2 ^ unit_number u
shifted u = let p : 2 ^ unit_number u < 2 ^ 15 = pow-lt (unit-below u) in omega arith

-- What a reader keeps on its way: the rows and the mask of what the parts gave. Before the first part, after a part that carries
-- nothing, after one that carries a value, and at the end.

pub record Holds (gave : List Gave) (values : List ℤ) (starts ends : List ℕ) (mask : ℕ) : Type 0 where
  pub values-are : values ≡ row_of value_of gave
  pub starts-are : starts ≡ row_of began_at gave
  pub ends-are : ends ≡ row_of ended_at gave
  pub mask_is : mask ≡ mask_of gave

pub holds-none : Holds [] (replicate 15 (pos 0)) (replicate 15 0) (replicate 15 0) 0
unfolding last_of bits
holds-none = record { values-are = refl; starts-are = refl; ends-are = refl; mask_is = refl }

module _ {gave : List Gave} {values : List ℤ} {starts ends : List ℕ} {mask : ℕ} (h : Holds gave values starts ends mask) (start end : ℕ) where
  pub holds-nothing : Holds (record { carried = None; start = start; end = end } ∷ gave) values starts ends mask
  unfolding last_of
  holds-nothing =
      record { values-are = h.values-are; starts-are = h.starts-are; ends-are = h.ends-are; mask_is = h.mask_is }

  pub holds-value : (u : ParseUnit) (z : ℤ)
      → Holds (record { carried = value u z; start = start; end = end } ∷ gave)
      (set values (unit_number u) z) (set starts (unit_number u) start) (set ends (unit_number u) end) (bit_or mask (1 * 2 ^ unit_number u % 65536))
  holds-value u z =
      record {
        values-are = rw h.values-are (row-set gave u z start end (λ g. value_in g.carried) (pos 0));
        starts-are = rw h.starts-are (row-set gave u z start end (λ g. g.start) 0);
        ends-are = rw h.ends-are (row-set gave u z start end (λ g. g.end) 0);
        mask_is = rw (h.mask_is, shifted u) (mask-set gave u z start end);
      }

pub holds-reading : {gave : List Gave} {values : List ℤ} {starts ends : List ℕ} {mask : ℕ} → Holds gave values starts ends mask → (taken : ℕ)
    → ◌≡◌ {A = Reading}
    (record { taken = taken; values = values; mask = mask; units = ones mask; starts = starts; ends = ends })
    (reading_of taken gave)
holds-reading {gave} h taken = rw (h.values-are, h.starts-are, h.ends-are, h.mask_is, units-counted gave)
