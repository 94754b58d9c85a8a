-- Specification, "Sheet samples", line "Check", and the shortcuts that look right, in the current year 2025.
use Rattle.std.specs.Prelude.{Result, Ok, Err}
use mathlib.Core.List.{List, [], ◌∷◌}
use mathlib.Core.Path.{refl}
use Prim.Native.String.{String}
use lib.IntN.{pos}
use Rattle.meaning.proofs.Tables.{Sample, ◌↦'◌, Answered}
use Rattle.meaning.specs.Bytes as B
use Rattle.meaning.specs.declared.Refusal.{Refusal}
use Rattle.meaning.specs.declared.Edition.{Edition}
use Rattle.meaning.specs.declared.Edition.TheVariants.{First, Second}
use Rattle.meaning.specs.declared.Refusal.TheVariants.{LoneQuote}
use Rattle.meaning.specs.declared.Verdict.{Verdict}
use Rattle.meaning.specs.declared.Verdict.TheVariants.{Yes, No}
use Rattle.trust.specs.Check.{verdict_of, short_numbers, long_numbers, long_year}

pub asked : Edition → String → Result Verdict Refusal
unfolding verdict_of B.bytes
asked edition p = verdict_of edition (B.bytes p) (pos 2025)

pub table : List (Sample String (Result Verdict Refusal))
table =
    "d/MM" ↦' Ok Yes ∷ "d/M" ↦' Ok (No 2 long_numbers) ∷ "XXXXX5" ↦' Ok Yes ∷ "XXXXX.5" ↦' Ok (No 0 long_numbers) ∷ "" ↦' Ok Yes
    ∷ "yy" ↦' Ok (No 0 long_year) ∷ "yyyyy" ↦' Ok (No 0 long_year) ∷ "yyyyyy" ↦' Ok (No 0 long_year) ∷ "yyyyyyy" ↦' Ok Yes
    ∷ "dH" ↦' Ok (No 0 short_numbers) ∷ "D5" ↦' Ok (No 0 short_numbers) ∷ "XXXXXe5" ↦' Ok (No 0 long_numbers) ∷ "XXXXXMMMMMd" ↦' Ok (No 0 long_numbers)
    ∷ "a'b''" ↦' Ok (No 1 long_numbers) ∷ "a'" ↦' Err (LoneQuote 1) ∷ []

pub samples : Answered (asked First) table
unfolding table asked verdict_of B.bytes
samples = refl

-- "The second edition": M fails only where a digit can follow its one-digit month, and yy as before
pub second_table : List (Sample String (Result Verdict Refusal))
second_table =
    "d/M" ↦' Ok Yes ∷ "M/d" ↦' Ok Yes ∷ "M" ↦' Ok Yes ∷ "Md" ↦' Ok (No 0 short_numbers) ∷ "M5" ↦' Ok (No 0 short_numbers) ∷ "d/MH" ↦' Ok (No 2 short_numbers)
    ∷ "MM5" ↦' Ok Yes ∷ "yy" ↦' Ok (No 0 long_year) ∷ "M/yy" ↦' Ok (No 2 long_year) ∷ "dH" ↦' Ok (No 0 short_numbers) ∷ []

pub second_samples : Answered (asked Second) second_table
unfolding second_table asked verdict_of B.bytes
second_samples = refl
