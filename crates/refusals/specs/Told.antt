-- "Answer numbers": what is told of a refusal, its number and one or two details.
use Rattle.std.specs.Prelude.{List, [], ◌∷◌, ℕ, ℤ, pos, nat_abs, get_or, Option, Some, None}
use Rattle.refusals.specs.declared.Detail.{Detail}
use Rattle.refusals.specs.declared.Told.{Told}
use Rattle.meaning.specs.Answers.{number, details}
use Rattle.meaning.specs.Numerals.{integer}
use Rattle.meaning.specs.Writing.{is_negative}
use Rattle.meaning.specs.declared.Refusal.{Refusal}

abbrev pub detail : ℤ → Detail
detail z = record { negative = is_negative z; size = nat_abs z }

abbrev pub second_in : List ℤ → Option Detail
second_in [] = None
second_in (first ∷ []) = None
second_in (first ∷ second ∷ more) = Some (detail second)

abbrev pub told : Refusal → Told
told why =
    record {
      number = number why;
      first = detail (get_or (details why) 0 (pos 0));
      second = second_in (details why);
    }

-- what the code builds it from
abbrev pub unsigned : ℕ → Detail
unsigned n = detail (pos n)

abbrev pub one_detail : ℕ → ℕ → Told
one_detail number n = record { number = number; first = unsigned n; second = None }

-- the number that a detail stands for
abbrev pub detail_of : Detail → ℤ
detail_of d = integer (record { negative = d.negative; size = d.size })

-- the numbers that are told, one or two
abbrev pub second_details : Option Detail → List ℤ
second_details None = []
second_details (Some d) = detail_of d ∷ []
