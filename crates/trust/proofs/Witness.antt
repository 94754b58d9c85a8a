-- The three records that a no can show. What holds of each holds of the one that is shown.
use Rattle.std.specs.Prelude.{Ok}
use mathlib.Core.Path.{◌≡◌, refl}
use Rattle.meaning.specs.Answers.{fields_check}
use Rattle.meaning.specs.declared.Fields.{Fields}
use Rattle.trust.specs.Check.{short_numbers, long_numbers, long_year, witness}
use Rattle.trust.specs.declared.Need.{Need}
use Rattle.trust.specs.declared.Need.TheVariants.{Nothing, NoDigit, NoSecondDigit, Broken, LosesYear}

pub of-witness : (P : Fields → Type 0) → P short_numbers → P long_numbers → P long_year → (need : Need) → P (witness need)
of-witness P short long year Nothing = long
of-witness P short long year NoDigit = short
of-witness P short long year NoSecondDigit = long
of-witness P short long year Broken = long
of-witness P short long year LosesYear = year

pub witness-fine : (need : Need) → fields_check (witness need) ≡ Ok tt
unfolding fields_check
witness-fine = of-witness (λ f. fields_check f ≡ Ok tt) refl refl refl
