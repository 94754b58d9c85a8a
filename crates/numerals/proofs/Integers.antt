-- A number that fits 64 signed bits is itself in them, and so is its negation.
use mathlib.Core.Path.{◌≡◌}
use Prim.Native.Nat.{ℕ, zero, suc, ◌^◌, ◌<◌}
use native.Mathlib.Omega.{arith}
use lib.IntN.{pos, neg_ℤ, ◌-ℤ◌, +ℤ_idl}
use mir.Facts.{to_z_pos}
use mir.Syntax.{w64}
use mir.Val.{SFits, to_z}

pub widened : (n : ℕ) → n < 2 ^ 63 → to_z w64 n ≡ pos n
widened n h = to_z_pos w64 (omega arith)

pub negated : (n : ℕ) → pos 0 -ℤ pos n ≡ neg_ℤ (pos n)
negated n = +ℤ_idl (neg_ℤ (pos n))

pub negated_fits : (n : ℕ) → n < 2 ^ 63 → SFits w64 (neg_ℤ (pos n))
negated_fits zero h = record { sfits = omega arith }
negated_fits (suc n) h = record { sfits = omega arith }
