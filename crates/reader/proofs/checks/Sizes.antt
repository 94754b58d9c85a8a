-- The largest byte, place by place; and that a text whose largest byte is allowed has no other.
use Rattle.std.specs.Prelude.{Ok}
use mathlib.Core.List.{List, [], ◌∷◌}
use mathlib.Core.Path.{◌≡◌, refl}
use Prim.Native.Nat.{ℕ, suc, ◌+◌, ◌≤◌, ◌<◌, max}
use native.Mathlib.Numerals.{add-one}
use native.Mathlib.Omega.{arith}
use lib.ListN.{length, get_or, drop, drop_of_length-le}
use Rattle.meaning.specs.Answers.{byte_check}
use Rattle.meaning.specs.declared.Refusal.{Refusal}
use Rattle.pattern.proofs.parts.Scans.{from-here}
use Rattle.pattern.proofs.checks.Checks.{within-yes}
use Rattle.reader.specs.Largest.{largest_of}

pub largest-turn : (s : List ℕ) (i : ℕ) → i < length s → largest_of (drop i s) ≡ max (get_or s i 0) (largest_of (drop (i + 1) s))
unfolding largest_of
largest-turn s i h = rw (from-here s i h, largest_of, add-one i)

pub largest-end : (s : List ℕ) (i : ℕ) → length s ≤ i → largest_of (drop i s) ≡ 0
unfolding largest_of
largest-end s i h = rw (drop_of_length-le s h)

pub all_small : (why : ℕ → Refusal) (high i : ℕ) (s : List ℕ) → largest_of s ≤ high → byte_check why 0 high i s ≡ Ok tt
unfolding largest_of byte_check
all_small why high i [] h = refl
all_small why high i (b ∷ s) h = rw (within-yes 0 high b (omega arith) (omega arith), byte_check) (all_small why high (suc i) s (omega arith))
