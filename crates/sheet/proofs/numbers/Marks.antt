-- Looking at a mask that is cut to fifteen bits.
use mathlib.Core.Bool.{false}
use mathlib.Core.Path.{◌≡◌}
use Prim.Native.Nat.{ℕ, ◌/◌, ◌%◌, ◌≤◌}
use native.Mathlib.Omega.{arith}
use lib.Dec.{eqb}
use lib.IntN.{ℤ, pos, negsuc, nat_abs}
use lib.Signed.{lt_z}
use borrow.Author.Tests.{le-leb}
use Rattle.meaning.specs.Whole.{unit_number, marked}
use Rattle.meaning.specs.declared.ParseUnit.{ParseUnit}
use Rattle.meaning.specs.declared.ParseUnit.TheVariants as unit
use Rattle.reader.proofs.record.Units.{unit-below}
use Rattle.sheet.specs.Numbers.{is_marked}

same_bit : (d mask : ℕ) → mask % 32768 / d % 2 ≡ mask / d % 2 → eqb (mask % 32768 / d % 2) 1 ≡ eqb (mask / d % 2) 1
same_bit d mask e = rw e

cut : (mask : ℕ) (u : ParseUnit) → marked (mask % 32768) (unit_number u) ≡ marked mask (unit_number u)
unfolding marked
cut mask unit.Year = same_bit 1 mask (omega arith)
cut mask unit.Month = same_bit 2 mask (omega arith)
cut mask unit.DayOfMonth = same_bit 4 mask (omega arith)
cut mask unit.DayOfYear = same_bit 8 mask (omega arith)
cut mask unit.Hour = same_bit 16 mask (omega arith)
cut mask unit.Period = same_bit 32 mask (omega arith)
cut mask unit.PeriodHour = same_bit 64 mask (omega arith)
cut mask unit.Minute = same_bit 128 mask (omega arith)
cut mask unit.Second = same_bit 256 mask (omega arith)
cut mask unit.Decis = same_bit 512 mask (omega arith)
cut mask unit.Centis = same_bit 1024 mask (omega arith)
cut mask unit.Millis = same_bit 2048 mask (omega arith)
cut mask unit.Micros = same_bit 4096 mask (omega arith)
cut mask unit.Nanos = same_bit 8192 mask (omega arith)
cut mask unit.Offset = same_bit 16384 mask (omega arith)

pub cut-marked : (z : ℤ) (u : ParseUnit) (k : ℕ) → lt_z z (pos 0) ≡ false → unit_number u ≡ k → marked (nat_abs z % 32768) (unit_number u) ≡ is_marked z k
cut-marked (pos n) u k t e = let h : k ≤ 14 = omega (arith, unit-below u, e) in rw (cut n u, e, le-leb k 14 h)
cut-marked (negsuc n) u k t e = absurd (let e : ◌≡◌ {A = ℕ} 0 1 = cc in omega arith)
