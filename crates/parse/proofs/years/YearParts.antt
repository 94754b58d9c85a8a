-- Laws of what so many bytes of a year give, counted from one, and that the sum fits.
use Rattle.std.specs.Prelude.{Err, Option}
use Rattle.parse.proofs.cursor.Moves.{stop}
use mathlib.Core.Bool.{Bool, true, false}
use mathlib.Core.List.{List}
use mathlib.Core.Path.{◌≡◌, refl, sym, ◌∙◌}
use Prim.Native.Nat.{ℕ, zero, suc, ◌^◌, ◌<◌}
use native.Mathlib.Nat.{add-zero}
use native.Mathlib.Omega.{arith}
use lib.Dec.{ltb}
use lib.IntN.{ℤ, pos, ◌+ℤ◌, +ℤ_idr}
use lib.ListN.{length}
use mir.Syntax.{w64}
use mir.Val.{SFits}
use Rattle.laws.proofs.Readers.{take-stops}
use Rattle.laws.proofs.Tests.{by-test}
use Rattle.meaning.specs.Numerals.{Signed, integer}
use Rattle.meaning.specs.Readers.{Got, got, stopped, ◌>>=◌, done, take_number, take_year}
use Rattle.meaning.specs.Reading.{taken_year, year, two_digits_mean}
use Rattle.meaning.specs.declared.Carried.{Carried}
use Rattle.meaning.specs.declared.Edition.{Edition}
use Rattle.meaning.specs.declared.Edition.TheVariants.{First, Second}
use Rattle.meaning.specs.declared.Numeral.TheVariants.{Year}
use Rattle.meaning.specs.declared.Trouble.TheVariants.{TooFew}
use Rattle.parse.proofs.steps.Parts.{made_of, made, made-twice, number_by, number-got}
use Rattle.parse.specs.Steps.{taken_at, part_at}
use Rattle.parse.specs.Years.{counted, year_since, short_since}

abbrev counted_year : Edition → ℕ → ℤ → Option Carried
counted_year edition since z = year (counted edition since z)

pub part-year : (edition : Edition) (since k at : ℕ) (s : List ℕ)
    → part_at at (year_since edition since k s) ≡ number_by (λ n. counted_year edition since (integer n)) (taken_at at (take_number Year k s))
part-year edition since k at s =
    rw (
      made {B = Option Carried} (counted_year edition since) (take_number Year k >>= λ n. done (integer n)) s,
      made {B = ℤ} (λ (n : Signed). integer n) (take_number Year k) s,
      made-twice (λ (n : Signed). integer n) (counted_year edition since) (take_number Year k s),
    )
    (number-got (λ n. counted_year edition since (integer n)) at (take_number Year k s))

-- a year in full counts from 0
in-full : (g : Got ℤ) → made_of (counted_year First 0) g ≡ made_of year g
in-full (got n z) = rw (+ℤ_idr z)
in-full (stopped why i) = refl

pub year-in-full : (k : ℕ) (s : List ℕ) → year_since First 0 k s ≡ taken_year k s
year-in-full k s = made (counted_year First 0) (take_year k) s ∙ in-full (take_year k s) ∙ sym (made year (take_year k) s)

pub two_digits : (edition : Edition) (current : ℕ) (s : List ℕ)
    → (take_year 2 >>= λ z. done (year (two_digits_mean edition current z))) s ≡ year_since edition (short_since edition current) 2 s
unfolding two_digits_mean
two_digits First current s = refl
two_digits Second current s = refl

pub year-few : (k at : ℕ) (s : List ℕ) → length s < k → part_at at (taken_year k s) ≡ Err (stop TooFew at)
year-few k at s h = rw (take-stops Year k s h, add-zero)

pub sum_fits : (negative : Bool) (n since : ℕ) → n < 2 ^ 32 → since < 2 ^ 32
    → SFits w64 (integer (record { negative = negative; size = n }) +ℤ pos since)
sum_fits false n since h k = record { sfits = omega arith }
sum_fits true zero since h k = record { sfits = omega arith }
sum_fits true (suc n) since h k =
    by-test (ltb since (suc n)) (λ e. rw e (record { sfits = omega arith })) (λ e. rw e (record { sfits = omega arith }))
