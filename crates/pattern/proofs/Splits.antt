-- The loop that fills a split: what holds at each turn, how it starts, one turn, and the split at its end.
use mathlib.Core.List.{List, ◌++◌, append-nil}
use mathlib.Core.Path.{◌≡◌, refl, sym, ap, ◌∙◌}
use Prim.Native.Nat.{ℕ, suc, ◌+◌, ◌-◌, ◌≤◌, ◌<◌}
use native.Mathlib.Numerals.{add-one}
use native.Mathlib.Omega.{arith}
use lib.ListN.{length, take, drop, set, replicate, length-set, drop_of_length-le, take-append-drop}
use lib.Seq.{drop-drop, drop-set-lt, take-suc-set, append_snoc, length-take-le}
use Rattle.meaning.specs.Splitting.{contents, parts_from, parts, no_part}
use Rattle.meaning.specs.Whole.{split_into}
use Rattle.meaning.specs.declared.Part.{Part}
use Rattle.meaning.specs.declared.Split.{Split}
use Rattle.pattern.specs.Next.{Next}

-- The first entries are the parts before a place, and no part uses the others.
pub record Filled (p : List ℕ) (entries : List Part) (used at : ℕ) : Type 0 where
  pub here : at ≤ length p
  pub few : used ≤ at
  pub room : length entries ≡ 256
  pub front : parts p ≡ take used entries ++ parts_from at (contents (drop at p))
  pub rest : drop used entries ≡ replicate (256 - used) no_part

pub filled-start : (p : List ℕ) (empty : Part) → empty ≡ no_part → Filled p (replicate 256 empty) 0 0
unfolding parts
filled-start p empty e =
    rw e (record { here = omega arith; few = omega arith; room = refl; front = refl; rest = refl })

pub filled-turn : {p : List ℕ} {entries : List Part} {used at : ℕ} {part : Part} → length p ≤ 256 → at < length p
    → Filled p entries used at → Next p at part → Filled p (set entries used part) (used + 1) (at + part.length)
filled-turn {p} {entries} {used} {at} {part} h k f n =
    let a : used < length entries = omega arith in
    let b : 256 - used ≡ suc (256 - (used + 1)) = omega arith in
    record {
      here = n.fits;
      few = omega arith;
      room = length-set entries used part ∙ f.room;
      front = f.front ∙ rw (n.parts, add-one used, take-suc-set entries used part a, append_snoc);
      rest =
          drop-set-lt (used + 1) entries used part (omega arith) ∙ sym (drop-drop 1 used entries) ∙ ap (drop 1) f.rest
          ∙ rw b;
    }

pub filled-split : {p : List ℕ} {entries : List Part} {used at : ℕ} → length p ≤ 256 → length p ≤ at → Filled p entries used at
    → ◌≡◌ {A = Split} (record { parts = entries; used = used }) (split_into (parts p))
unfolding parts_from contents
filled-split {p} {entries} {used} {at} h k f =
    let a : parts p ≡ take used entries = f.front ∙ rw (drop_of_length-le p k, append-nil) in
    let b : length (parts p) ≡ used = ap length a ∙ length-take-le used entries (omega arith) in
    rw (b, a)
    (ap (λ (l : List Part). record { parts = l; used = used }) (sym (take-append-drop used entries) ∙ rw f.rest))
