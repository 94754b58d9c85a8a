-- Laws for walks: what a turn finds; the steps of what is left of a pattern, which are its next part's and those behind it, and none
-- at its end; how long a part is; and the part of a slice from a place on.
use mathlib.Core.List.{List, [], ◌∷◌}
use mathlib.Core.Path.{◌≡◌, sym, ap}
use Prim.Native.Nat.{ℕ, ◌+◌, ◌-◌, ◌≤◌}
use native.Mathlib.Omega.{arith}
use lib.ListN.{length, take, drop, length-drop, drop_of_length-le}
use lib.Seq.{take_all}
use Rattle.meaning.specs.Splitting.{elements, outside, contents, length_of, parts_from}
use Rattle.meaning.specs.Writing.{step_of, steps}
use Rattle.meaning.specs.declared.Pair.{Pair}
use Rattle.meaning.specs.declared.Part.{Part}
use Rattle.pattern.specs.Next.{Next}
use Rattle.pattern.specs.First.{content_of}

-- the part that a turn finds, in a walk over a pattern
pub found_in : {p q : List ℕ} {at : ℕ} {part : Part} → q ≡ p → Next q at part → Next p at part
found_in e n = rw e at n

pub steps_next : (pair : Pair) (p : List ℕ) (at : ℕ) (part : Part) → Next p at part
    → steps pair (drop at p) ≡ step_of pair (content_of p part) ∷ steps pair (drop (at + part.length) p)
unfolding steps
steps_next pair p at part n = rw n.walk

pub steps-done : (pair : Pair) (p : List ℕ) (at : ℕ) → length p ≤ at → steps pair (drop at p) ≡ []
unfolding steps contents elements outside
steps-done pair p at h = rw (drop_of_length-le p h)

pub parts-done : (p : List ℕ) (at : ℕ) → length p ≤ at → parts_from at (contents (drop at p)) ≡ []
unfolding parts_from contents elements outside
parts-done p at h = rw (drop_of_length-le p h)

pub part-long : {p : List ℕ} {at : ℕ} {part : Part} → Next p at part → length_of (content_of p part) ≡ part.length
part-long {p} {at} {part} n = sym (ap (λ (q : Part). q.length) n.itself)

-- the part of a slice from a place on
pub rest_all : (at : ℕ) (s : List ℕ) → take (length s - at) (drop at s) ≡ drop at s
rest_all at s = take_all (length s - at) (drop at s) (rw length-drop (omega arith))
