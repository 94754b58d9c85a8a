-- What holds while the bytes that a walk has left are laid one after the other: what lies there and what is left are the whole.
use mathlib.Core.List.{List}
use mathlib.Core.Path.{◌≡◌}
use Prim.Native.Nat.{ℕ, ◌+◌}
use lib.ListN.{length}
use lib.Seq.{sets}

pub record Laying (old new : List ℕ) (at next : ℕ) (whole left : List ℕ) : Type 0 where
  pub held : sets new next left ≡ sets old at whole
  pub end : next + length left ≡ at + length whole
  pub same_length : length new ≡ length old
