-- The sign of a zone, by samples: each count of X and of x, at offsets of less than a minute, of a minute and of an hour.
use mathlib.Core.List.{List, [], ◌∷◌, map}
use mathlib.Core.Path.{◌≡◌, refl}
use Prim.Native.Nat.{ℕ}
use Prim.Native.String.{String}
use lib.IntN.{ℤ, pos, negsuc}
use Rattle.meaning.specs.Bytes as B
use Rattle.meaning.specs.Bytes.{bytes}
use Rattle.meaning.specs.Names.{english}
use Rattle.meaning.specs.Rules as U
use Rattle.meaning.specs.Splitting as S
use Rattle.meaning.specs.Whole.{text}
use Rattle.meaning.specs.Writing as W
use Rattle.meaning.specs.declared.Fields.{Fields}
use Rattle.meaning.specs.declared.Pair.TheVariants.{Full}

abbrev with_offset : ℤ → Fields
with_offset z =
    record { year = pos 2025; month = 12; day = 3; doy = 337; week = 49; wday = 3; nanos = 0; offset = z }

-- 0, -1, -30, -59, -60, 30 and -3600
pub offsets : List ℤ
offsets = pos 0 ∷ negsuc 0 ∷ negsuc 29 ∷ negsuc 58 ∷ negsuc 59 ∷ pos 30 ∷ negsuc 3599 ∷ []

-- a pattern, and its texts at these offsets
pub record Sample : Type 0 where
  pub pattern : String
  pub written : List String

abbrev ◌↦'◌ : String → List String → Sample
p ↦' ts = record { pattern = p; written = ts }

infix 90 ◌↦'◌
pub table : List Sample
table =
    "X" ↦' ("Z" ∷ "+00" ∷ "+00" ∷ "+00" ∷ "-0001" ∷ "+00" ∷ "-01" ∷ [])
    ∷ "XX" ↦' ("Z" ∷ "+0000" ∷ "+0000" ∷ "+0000" ∷ "-0001" ∷ "+0000" ∷ "-0100" ∷ [])
    ∷ "XXX" ↦' ("Z" ∷ "+00:00" ∷ "+00:00" ∷ "+00:00" ∷ "-00:01" ∷ "+00:00" ∷ "-01:00" ∷ [])
    ∷ "XXXX" ↦' ("Z" ∷ "-000001" ∷ "-000030" ∷ "-000059" ∷ "-0001" ∷ "+000030" ∷ "-0100" ∷ [])
    ∷ "XXXXX" ↦' ("Z" ∷ "-00:00:01" ∷ "-00:00:30" ∷ "-00:00:59" ∷ "-00:01" ∷ "+00:00:30" ∷ "-01:00" ∷ [])
    ∷ "XXXXXX" ↦' ("Z" ∷ "+00:00" ∷ "+00:00" ∷ "+00:00" ∷ "-00:01" ∷ "+00:00" ∷ "-01:00" ∷ [])
    ∷ "x" ↦' ("+00" ∷ "+00" ∷ "+00" ∷ "+00" ∷ "-0001" ∷ "+00" ∷ "-01" ∷ [])
    ∷ "xx" ↦' ("+0000" ∷ "+0000" ∷ "+0000" ∷ "+0000" ∷ "-0001" ∷ "+0000" ∷ "-0100" ∷ [])
    ∷ "xxx" ↦' ("+00:00" ∷ "+00:00" ∷ "+00:00" ∷ "+00:00" ∷ "-00:01" ∷ "+00:00" ∷ "-01:00" ∷ [])
    ∷ "xxxx" ↦' ("+0000" ∷ "-000001" ∷ "-000030" ∷ "-000059" ∷ "-0001" ∷ "+000030" ∷ "-0100" ∷ [])
    ∷ "xxxxx" ↦' ("+00:00" ∷ "-00:00:01" ∷ "-00:00:30" ∷ "-00:00:59" ∷ "-00:01" ∷ "+00:00:30" ∷ "-01:00" ∷ [])
    ∷ "xxxxxx" ↦' ("+00:00" ∷ "+00:00" ∷ "+00:00" ∷ "+00:00" ∷ "-00:01" ∷ "+00:00" ∷ "-01:00" ∷ [])
    ∷ []

pub asked : Sample → List (List ℕ)
unfolding offsets text
asked s = map (λ z. text Full english (bytes s.pattern) (with_offset z)) offsets

pub samples : map asked table ≡ map (λ s. map bytes s.written) table
unfolding table asked offsets english bytes text B.num B.digits B.width B.width_in S.contents S.elements S.outside U.rule_of U.role_among U.date_role U.time_role U.role_of U.pick U.otherwise_rule W.offset_digits W.all_zero W.is_minus W.offset_text W.rule_text W.step_of W.ends_in_quote W.steps W.step_text W.texts
samples = refl
