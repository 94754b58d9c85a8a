-- A loop that lays numbers for each part of a pattern: what holds at each turn, how it starts, one turn, and the row at its end.
-- `numbers at` are those of the parts from a place on, and the next one's start at `place used` in the row.
use mathlib.Core.List.{List, [], ◌++◌}
use mathlib.Core.Path.{◌≡◌, refl, sym, ◌∙◌}
use Prim.Native.Nat.{ℕ, ◌+◌, ◌≤◌}
use native.Mathlib.Omega.{arith}
use lib.IntN.{ℤ}
use lib.ListN.{length, drop, drop_of_length-le}
use lib.Seq.{sets, length-sets}
use Rattle.laws.proofs.Laid.{sets-append}
use Rattle.meaning.specs.Splitting.{contents, parts_from, parts}
use Rattle.meaning.specs.declared.Part.{Part}
use Rattle.pattern.specs.Next.{Next}
use Rattle.rows.specs.Rows.{laid}

-- the parts from a place on
abbrev pub rest : List ℕ → ℕ → List Part
rest p at = parts_from at (contents (drop at p))

pub record Laying (place : ℕ → ℕ) (numbers : ℕ → List ℤ) (p : List ℕ) (old row : List ℤ) (used at : ℕ) : Type 0 where
  pub here : at ≤ length p
  pub few : used ≤ at
  pub count : used + length (rest p at) ≡ length (parts p)
  pub laid : sets row (place used) (numbers at) ≡ sets old 0 (numbers 0)
  pub same : length row ≡ length old

module _ (place : ℕ → ℕ) (numbers : ℕ → List ℤ) where
  pub laying-start : (p : List ℕ) (old : List ℤ) → place 0 ≡ 0 → Laying place numbers p old old 0 0
  unfolding parts
  laying-start p old e =
      record { here = omega arith; few = omega arith; count = omega arith; laid = rw e; same = refl }

  pub laying-turn : {p : List ℕ} {old row : List ℤ} {used at : ℕ} {part : Part} (ns : List ℤ) → Laying place numbers p old row used at → Next p at part
      → numbers at ≡ ns ++ numbers (at + part.length) → place (used + 1) ≡ place used + length ns
      → Laying place numbers p old (sets row (place used) ns) (used + 1) (at + part.length)
  laying-turn {p} {old} {row} {used} {at} {part} ns l n split next =
      record {
        here = n.fits;
        few = omega (arith, l.few, n.some);
        count = omega (arith, rw n.parts at l.count);
        laid = rw (next, ← sets-append row (place used) ns (numbers (at + part.length)), ← split) l.laid;
        same = length-sets row (place used) ns ∙ l.same;
      }

  pub laying-end : {p : List ℕ} {old row : List ℤ} {used at : ℕ} → length p ≤ 256 → length p ≤ at → numbers at ≡ [] → Laying place numbers p old row used at
      → (used ≤ 256) × (used ≡ length (parts p)) × (row ≡ laid (numbers 0) old)
  unfolding contents parts_from
  laying-end {p} {old} {row} {used} {at} h k none l =
      let count : used ≡ length (parts p) = omega (arith, rw (drop_of_length-le p k) at l.count) in
      (omega (arith, l.few, l.here), count, rw none at l.laid)

-- more numbers behind those that are laid
pub laid-behind : (old : List ℤ) {row : List ℤ} (ns more : List ℤ) (n : ℕ) → row ≡ laid ns old → length ns ≡ n → sets row n more ≡ laid (ns ++ more) old
laid-behind old ns more n e long =
    let start : 0 + length ns ≡ n = omega arith in
    rw e (rw start at (sym (sets-append old 0 ns more)))
