-- Refusals 1 and 2: the search for a byte that is not allowed, place by place, and the limit on a pattern's length.
use Rattle.std.specs.Prelude.{Ok, Err}
use mathlib.Core.Bool.{true, false}
use mathlib.Core.List.{List}
use mathlib.Core.Path.{◌≡◌}
use Prim.Native.Nat.{ℕ, ◌+◌, ◌≤◌, ◌<◌}
use native.Mathlib.Numerals.{add-one}
use lib.ListN.{length, get_or, drop, drop_of_length-le}
use borrow.Author.Tests.{le-leb, lt-leb}
use Rattle.meaning.specs.Answers.{within, byte_check, bytes_check}
use Rattle.meaning.specs.declared.Refusal.{Refusal}
use Rattle.meaning.specs.declared.Refusal.TheVariants.{PatternTooLong, PatternByte}
use Rattle.pattern.proofs.parts.Scans.{from-here}

pub within-yes : (low high b : ℕ) → low ≤ b → b ≤ high → within low high b ≡ true
within-yes low high b h k = rw (le-leb low b h, le-leb b high k)

pub within-below : (low high b : ℕ) → b < low → within low high b ≡ false
within-below low high b h = rw (lt-leb low b h)

pub within-above : (low high b : ℕ) → low ≤ b → high < b → within low high b ≡ false
within-above low high b h k = rw (le-leb low b h, lt-leb b high k)

module _ (why : ℕ → Refusal) (low high : ℕ) (p : List ℕ) (i : ℕ) where
  pub bytes-more : i < length p → within low high (get_or p i 0) ≡ true
      → byte_check why low high i (drop i p) ≡ byte_check why low high (i + 1) (drop (i + 1) p)
  unfolding byte_check
  bytes-more h e = rw (from-here p i h, e, byte_check, add-one i)

  pub bytes-stop : i < length p → within low high (get_or p i 0) ≡ false → byte_check why low high i (drop i p) ≡ Err (why i)
  unfolding byte_check
  bytes-stop h e = rw (from-here p i h, e, byte_check)

  pub bytes-done : length p ≤ i → byte_check why low high i (drop i p) ≡ Ok tt
  unfolding byte_check
  bytes-done h = rw (drop_of_length-le p h)

pub long-pattern : (p : List ℕ) → 256 < length p → bytes_check p ≡ Err (PatternTooLong (length p))
unfolding bytes_check
long-pattern p h = rw (lt-leb (length p) 256 h)

pub short-pattern : (p : List ℕ) → length p ≤ 256 → bytes_check p ≡ byte_check PatternByte 1 127 0 p
unfolding bytes_check
short-pattern p h = rw (le-leb (length p) 256 h)
