-- Where the parts of a reading began and ended, by samples in the current year 2025: all that the part took, a sign included; of a
-- unit read twice the last part's; none beside a refusal or for a unit that was not read.
use mathlib.Core.List.{List, [], ◌∷◌, map}
use mathlib.Core.Path.{◌≡◌, refl}
use Prim.Native.Nat.{ℕ}
use Prim.Native.String.{String}
use lib.IntN.{pos}
use lib.ListN.{replicate, set}
use Rattle.meaning.specs.Bytes.{bytes}
use Rattle.meaning.specs.Names.{english, names}
use Rattle.meaning.specs.Readers.{take_number}
use Rattle.meaning.specs.Whole.{plain, read, record_of}
use Rattle.meaning.specs.declared.Pair.TheVariants.{Full}

pub record Spans : Type 0 where
  pub starts : List ℕ
  pub ends : List ℕ

pub asked : String → String → Spans
unfolding read
asked p s =
    let r = record_of (read (plain Full) english (bytes p) (bytes s) (pos 2025)) in
    record { starts = r.starts; ends = r.ends }

-- a unit's span, and one more
pub none' : Spans
none' = record { starts = replicate 15 0; ends = replicate 15 0 }

pub with' : ℕ → ℕ → ℕ → Spans → Spans
with' unit start end spans = record { starts = set spans.starts unit start; ends = set spans.ends unit end }

pub record Sample : Type 0 where
  pub pattern : String
  pub text : String
  pub spans : Spans

abbrev ◌on◌↦'◌ : String → String → Spans → Sample
p on s ↦' spans = record { pattern = p; text = s; spans = spans }

infix 90 ◌on◌↦'◌
pub table : List Sample
unfolding none' with'
table =
    "y" on "-5" ↦' with' 0 0 2 none'
    ∷ "X" on "Z" ↦' with' 14 0 1 none'
    ∷ "d/M" on "3/12" ↦' with' 1 2 3 (with' 2 0 1 none')
    ∷ "d d" on "3 14" ↦' with' 2 2 4 none'
    ∷ "XXX d" on "+05:30 3" ↦' with' 14 0 6 (with' 2 7 8 none')
    ∷ "w/d" on "3/4" ↦' with' 2 2 3 none'
    ∷ "w" on "3" ↦' none'
    ∷ "d/d" on "3/x" ↦' none'
    ∷ []

pub samples : map (λ s. asked s.pattern s.text) table ≡ map (λ s. s.spans) table
unfolding table asked none' with' english names bytes take_number
samples = refl
