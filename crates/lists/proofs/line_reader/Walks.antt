-- Laws for walks over the lines of a text: what is left at a place is the line there and what is left at the next one, and nothing at the
-- text's end.
use mathlib.Core.List.{List, [], ◌∷◌}
use mathlib.Core.Path.{◌≡◌, refl, ap, ◌∙◌}
use Prim.Native.Nat.{ℕ, suc, ◌+◌, ◌-◌, ◌≤◌, ◌<◌, min}
use native.Mathlib.Omega.{arith}
use lib.ListN.{length, take, drop, length-take, length-drop}
use Rattle.laws.proofs.Lists.{end-inside, line-there, line-none}
use Rattle.laws.specs.Lists.{line_end, next_line}
use Rattle.meaning.specs.Lists.{lines}
use Rattle.lists.specs.Walk.{places_at, places_from}

places_none : (size at : ℕ) → places_from size at [] ≡ []
unfolding places_from
places_none size at = refl

places-first : (size at : ℕ) (line : List ℕ) (ls : List (List ℕ)) → places_from size at (line ∷ ls)
    ≡ record { start = at; end = at + length line; next = min (suc (at + length line)) size } ∷ places_from size (min (suc (at + length line)) size) ls
unfolding places_from
places-first size at line ls = refl

-- as many places as lines
pub places-many : (size at : ℕ) (ls : List (List ℕ)) → length (places_from size at ls) ≡ length ls
places-many size at [] = ap length (places_none size at)
places-many size at (line ∷ ls) =
    ap length (places-first size at line ls) ∙ ap suc (places-many size (min (suc (at + length line)) size) ls)

pub line-long : (s : List ℕ) (at : ℕ) → at < length s → at + length (take (line_end s at - at) (drop at s)) ≡ line_end s at
line-long s at h = omega (arith, length-take (line_end s at - at) (drop at s), length-drop at s, end-inside s at (omega arith))

pub none_left : (s : List ℕ) (at : ℕ) → length s ≤ at → places_from (length s) at (lines (drop at s)) ≡ []
none_left s at h = rw (line-none s at h) (places_none (length s) at)

pub line_left : (s : List ℕ) (at : ℕ) → at < length s → places_from (length s) at (lines (drop at s))
    ≡ places_at s at ∷ places_from (length s) (next_line s (line_end s at)) (lines (drop (next_line s (line_end s at)) s))
line_left s at h =
    let first = places-first (length s) at (take (line_end s at - at) (drop at s)) (lines (drop (next_line s (line_end s at)) s)) in
    rw (line-there s at h) (rw (line-long s at h) at first)
