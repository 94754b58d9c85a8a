-- The loop that lays what the parts of a pattern are: one turn, and the row at its end; and the entries by the checks.
use Rattle.std.specs.Prelude.{Ok, Err}
use mathlib.Core.List.{List, [], ◌∷◌, ◌++◌, map}
use mathlib.Core.Path.{◌≡◌, refl, sym, ap, ◌∙◌}
use Prim.Native.Nat.{ℕ, suc, ◌+◌, ◌-◌, ◌≤◌}
use native.Mathlib.Omega.{arith}
use lib.IntN.{ℤ, negsuc}
use lib.ListN.{length, drop, replicate, length-map}
use lib.Seq.{sets}
use Rattle.meaning.specs.Answers.{bytes_check}
use Rattle.meaning.specs.Splitting.{Content, length_of, contents, parts_from, parts}
use Rattle.meaning.specs.Writing.{step_of, steps}
use Rattle.meaning.specs.declared.Pair.TheVariants.{Full}
use Rattle.meaning.specs.declared.Part.{Part}
use Rattle.meaning.specs.declared.Refusal.{Refusal}
use Rattle.pattern.proofs.parts.Walks.{steps_next, steps-done}
use Rattle.pattern.specs.First.{content_of}
use Rattle.pattern.specs.Next.{Next}
use Rattle.rows.proofs.Laying.{Laying, laying-turn, laying-end, laid-behind}
use Rattle.rows.specs.Rows.{laid, step_entry, unit_entries}

-- the entries of the parts from a place on, and where that of a part stands
abbrev pub entries_from : List ℕ → ℕ → List ℤ
entries_from p at = map step_entry (steps Full (drop at p))

abbrev pub place : ℕ → ℕ
place used = used

pub entries-turn : {p : List ℕ} {old row : List ℤ} {used at : ℕ} {part : Part} → Laying place (entries_from p) p old row used at → Next p at part
    → Laying place (entries_from p) p old (sets row used (step_entry (step_of Full (content_of p part)) ∷ [])) (used + 1) (at + part.length)
entries-turn {p} {at = at} {part = part} l n =
    laying-turn place (entries_from p) (step_entry (step_of Full (content_of p part)) ∷ []) l n (rw (steps_next Full p at part n)) (omega arith)

parts-length : (at : ℕ) (cs : List Content) → length (parts_from at cs) ≡ length cs
unfolding parts_from
parts-length at [] = refl
parts-length at (c ∷ cs) = ap suc (parts-length (at + length_of c) cs)

-- a part has one entry
entries-length : (p : List ℕ) → length (map step_entry (steps Full p)) ≡ length (parts p)
unfolding steps parts
entries-length p =
    length-map (steps Full p) step_entry ∙ length-map (contents p) (step_of Full) ∙ sym (parts-length 0 (contents p))

pub entries-end : {p : List ℕ} {old row : List ℤ} {used at : ℕ} → length p ≤ 256 → length p ≤ at → Laying place (entries_from p) p old row used at
    → (used ≤ 256) × (used ≡ length (parts p)) × (sets row used (replicate (256 - used) (negsuc 0)) ≡ laid (map step_entry (steps Full p) ++ replicate (256 - used) (negsuc 0)) old)
entries-end {p} {old} {row} {used} {at} h k l =
    let end = laying-end place (entries_from p) h k (rw (steps-done Full p at k)) l in
    (end.0, end.1, laid-behind old (map step_entry (steps Full p)) (replicate (256 - used) (negsuc 0)) used end.2 (entries-length p ∙ sym end.1))

-- a pattern that the checks pass, and one that they refuse
module _ (p : List ℕ) where
  pub units-fine : bytes_check p ≡ Ok tt
      → unit_entries p ≡ map step_entry (steps Full p) ++ replicate (256 - length (parts p)) (negsuc 0)
  unfolding unit_entries
  units-fine e = rw (e, entries-length p)

  pub units-refused : (why : Refusal) → bytes_check p ≡ Err why → unit_entries p ≡ []
  unfolding unit_entries
  units-refused why e = rw e
