-- Samples of mending: the mended pattern and its changes, each with its place, byte, and how often it stood and stands there.
use mathlib.Core.List.{List, [], ◌∷◌}
use mathlib.Core.Path.{◌≡◌, refl}
use Prim.Native.Char.{code}
use Prim.Native.Nat.{ℕ}
use Prim.Native.String.{String}
use Rattle.meaning.proofs.Tables.{Sample, ◌↦'◌, Answered}
use Rattle.meaning.specs.Bytes.{bytes, quote}
use Rattle.meaning.specs.Mending.{space, change, undone_from}
use Rattle.meaning.specs.declared.Change.{Change}
use Rattle.meaning.specs.declared.Edition.{Edition}
use Rattle.meaning.specs.declared.Edition.TheVariants.{First, Second}
use Rattle.trust.specs.Mending.{mended, changes}

pub record Mending : Type 0 where
  pub pattern : List ℕ
  pub list : List Change

abbrev ◌by◌ : String → List Change → Mending
p by cs = record { pattern = bytes p; list = cs }

infix 95 ◌by◌
pub asked : Edition → String → Mending
unfolding mended changes bytes
asked edition p = record { pattern = mended edition (bytes p); list = changes edition (bytes p) }

pub table : List (Sample String Mending)
unfolding bytes
table =
    "yyd" ↦' ("yyyy d" by (change 0 (code "y") 2 4 ∷ change 4 space 0 1 ∷ [])) ∷ "M5" ↦' ("MM5" by (change 0 (code "M") 1 2 ∷ []))
    ∷ "XXXXX 5" ↦' ("XXXXX   5" by (change 5 space 0 2 ∷ [])) ∷ "'abc''" ↦' ("'abc'''" by (change 6 quote 0 1 ∷ []))
    ∷ "yyyyyH" ↦' ("yyyyyyyH" by (change 0 (code "y") 5 7 ∷ [])) ∷ "dH:mm" ↦' ("d H:mm" by (change 1 space 0 1 ∷ []))
    ∷ "d/MM" ↦' ("d/MM" by []) ∷ "XXXXX5" ↦' ("XXXXX5" by []) ∷ "" ↦' ("" by []) ∷ []

pub samples : Answered (asked First) table
unfolding table asked mended changes bytes
samples = refl

pub second_table : List (Sample String Mending)
unfolding bytes
second_table = "M5" ↦' ("M 5" by (change 1 space 0 1 ∷ [])) ∷ "d/M" ↦' ("d/M" by []) ∷ "yyd" ↦' ("yyyy d" by (change 0 (code "y") 2 4 ∷ change 4 space 0 1 ∷ [])) ∷ []

pub second_samples : Answered (asked Second) second_table
unfolding second_table asked mended changes bytes
second_samples = refl

-- and undone
pub undone_sample : undone_from (bytes "yyyy d") 0 (change 0 (code "y") 2 4 ∷ change 4 space 0 1 ∷ []) ≡ bytes "yyd"
unfolding undone_from bytes
undone_sample = refl
