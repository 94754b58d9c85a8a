-- The loop that lays the parts of a pattern: one turn, and the row at its end.
use Rattle.std.specs.Prelude.{Ok, Err}
use mathlib.Core.List.{List, [], ◌∷◌, ◌++◌}
use mathlib.Core.Path.{◌≡◌, refl}
use Prim.Native.Nat.{ℕ, zero, suc, ◌+◌, ◌*◌, ◌-◌, ◌≤◌}
use native.Mathlib.Omega.{arith}
use lib.IntN.{ℤ, pos}
use lib.ListN.{length, replicate, drop_of_length-le}
use lib.Seq.{sets}
use Rattle.meaning.specs.Answers.{accepted, refused, split_answer, bytes_check}
use Rattle.meaning.specs.Splitting.{contents, parts_from, parts, no_part}
use Rattle.meaning.specs.Whole.{split}
use Rattle.meaning.specs.declared.Part.{Part}
use Rattle.meaning.specs.declared.Refusal.{Refusal}
use Rattle.pattern.specs.Next.{Next}
use Rattle.rows.proofs.Laying.{rest, Laying, laying-turn, laying-end, laid-behind}
use Rattle.rows.specs.Rows.{laid, split_numbers, part_numbers}

-- the numbers of the parts from a place on, and where those of a part start
abbrev pub numbers_from : List ℕ → ℕ → List ℤ
numbers_from p at = part_numbers (rest p at)

abbrev pub place : ℕ → ℕ
place used = 3 * used

pub parts-turn : {p : List ℕ} {old row : List ℤ} {used at : ℕ} {part : Part} → Laying place (numbers_from p) p old row used at → Next p at part
    → Laying place (numbers_from p) p old (sets row (3 * used) (part_numbers (part ∷ []))) (used + 1) (at + part.length)
unfolding part_numbers
parts-turn {p} {part = part} l n =
    laying-turn place (numbers_from p) (part_numbers (part ∷ [])) l n (rw n.parts) (omega arith)

numbers-append : (a b : List Part) → part_numbers (a ++ b) ≡ part_numbers a ++ part_numbers b
unfolding part_numbers
numbers-append [] b = refl
numbers-append (p ∷ a) b = rw (numbers-append a b)

numbers-length : (a : List Part) → length (part_numbers a) ≡ 3 * length a
unfolding part_numbers
numbers-length [] = refl
numbers-length (p ∷ a) = omega (arith, numbers-length a)

no-numbers : (n : ℕ) → part_numbers (replicate n no_part) ≡ replicate (3 * n) (pos 0)
unfolding part_numbers
no-numbers zero = refl
no-numbers (suc n) =
    let e : 3 * suc n ≡ suc (suc (suc (3 * n))) = omega arith in
    rw (e, no-numbers n)

pub parts-end : {p : List ℕ} {old row : List ℤ} {used at : ℕ} → length p ≤ 256 → length p ≤ at → Laying place (numbers_from p) p old row used at
    → (used ≤ 256) × (used ≡ length (parts p)) × (sets row (3 * used) (replicate (768 - 3 * used) (pos 0)) ≡ laid (part_numbers (parts p ++ replicate (256 - used) no_part)) old)
unfolding parts contents parts_from part_numbers
parts-end {p} {old} {row} {used} {at} h k l =
    let end = laying-end place (numbers_from p) h k (rw (drop_of_length-le p k)) l in
    let e : 768 - 3 * used ≡ 3 * (256 - used) = omega (arith, end.0) in
    let long : length (part_numbers (parts p)) ≡ 3 * used = omega (arith, numbers-length (parts p), end.1) in
    (end.0, end.1, rw (e, ← no-numbers (256 - used), numbers-append (parts p) (replicate (256 - used) no_part)) (laid-behind old (part_numbers (parts p)) (part_numbers (replicate (256 - used) no_part)) (3 * used) end.2 long))

-- a pattern that the checks pass, and one that they refuse
module _ (p : List ℕ) where
  pub split-fine : bytes_check p ≡ Ok tt
      → (split_answer (split p) ≡ accepted (pos (length (parts p)) ∷ []))
      × (split_numbers (split p) ≡ part_numbers (parts p ++ replicate (256 - length (parts p)) no_part))
  unfolding split
  split-fine e = rw e (refl, refl)

  pub split-refused : (why : Refusal) → bytes_check p ≡ Err why → (split_answer (split p) ≡ refused why) × (split_numbers (split p) ≡ [])
  unfolding split
  split-refused why e = rw e (refl, refl)
