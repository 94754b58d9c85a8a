-- A year of the line fits 32 signed bits.
use Prim.Native.Nat.{ℕ, ◌<◌}
use native.Mathlib.Omega.{arith}
use lib.Dec.{leb}
use mir.Syntax.{w32}
use mir.Val.{SFits}
use Rattle.laws.proofs.Tests.{by-test}
use Rattle.laws.specs.CalendarLine.{year_at}

pub year-fits : (p : ℕ) → p < 11760000 → SFits w32 (year_at p)
year-fits p h =
    by-test (leb 5880000 p) (λ t. rw t (record { sfits = omega arith })) (λ t. rw t (record { sfits = omega arith }))
