-- Request [11]: the verdicts on a pattern as numbers, one for each edition, kept in its row.
use Rattle.std.specs.Prelude.{ℕ, ◌+◌, ◌-◌, ◌*◌, ◌/◌, ◌%◌, List, eqb, Option, Some, None}
use Rattle.meaning.specs.Bytes.{when}
use Rattle.meaning.specs.declared.Edition.{Edition}
use Rattle.meaning.specs.declared.Edition.TheVariants.{First, Second}
use Rattle.trust.specs.declared.Need.{Need}
use Rattle.trust.specs.declared.Need.TheVariants.{Nothing, NoDigit, NoSecondDigit, Broken, LosesYear}
use Rattle.trust.specs.declared.Unmet.{Unmet}
use Rattle.trust.specs.Check.{unmet_at}
use Rattle.words.specs.Rows.{found}

abbrev pub need_number : Need → ℕ
need_number Nothing = 0
need_number NoDigit = 1
need_number NoSecondDigit = 2
need_number Broken = 3
need_number LosesYear = 4

abbrev pub need_in : ℕ → Need
need_in n =
    when (eqb n 0) Nothing (when (eqb n 1) NoDigit (when (eqb n 2) NoSecondDigit (when (eqb n 3) Broken LosesYear)))

-- 0 where every need is met
abbrev pub unmet_number : Option Unmet → ℕ
unmet_number None = 0
unmet_number (Some unmet) = 8 * unmet.part + 1 + need_number unmet.need

-- every number stands for an answer
abbrev pub unmet_in : ℕ → Option Unmet
unmet_in n = when (eqb n 0) None (Some (unmet_at ((n - 1) / 8) (need_in ((n - 1) % 8))))

-- what is found of an accepted pattern: where its held bytes start, and the two answers
abbrev pub found_with : ℕ → Option Unmet → Option Unmet → ℕ
found_with held first second = held + 512 * unmet_number first + 1048576 * unmet_number second

-- the answer for an edition that a row holds
abbrev pub answer_number : Edition → ℕ → ℕ
answer_number First n = n / 512 % 2048
answer_number Second n = n / 1048576 % 2048

unfoldable pub unmet_held : Edition → List ℕ → Option Unmet
unmet_held edition row = unmet_in (answer_number edition (found row))
