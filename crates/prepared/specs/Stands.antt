-- Request [11]: when a row stands for a pattern: then every use of it answers as the pattern does (`AsThePattern` of proofs/).
use Rattle.std.specs.Prelude.{Bool, true, List, ◌≡◌, ℕ, Ok}
use Rattle.meaning.specs.Answers.{pattern_check}
use Rattle.meaning.specs.Bytes.{when}
use Rattle.meaning.specs.Writing.{steps}
use Rattle.meaning.specs.declared.Edition.{Edition}
use Rattle.meaning.specs.declared.Pair.{Pair}
use Rattle.words.specs.Rows.{is_accepted, is_refused, checked_in, steps_held}
use Rattle.prepared.specs.PreparedRows.{unmet_of}
use Rattle.prepared.specs.Verdicts.{unmet_held}

-- whether a row is that of a prepared pattern, accepted or refused
abbrev pub is_prepared : List ℕ → Bool
is_prepared row = when (is_accepted row) true (is_refused row)

-- it says what the pattern's checks say; and of an accepted one it holds the steps, and what the check finds in each edition
pub record Stands (pair : Pair) (p row : List ℕ) : Type 0 where
  pub prepared : is_prepared row ≡ true
  pub checks : checked_in row ≡ pattern_check p
  pub holds : pattern_check p ≡ Ok tt → steps_held row ≡ steps pair p
  pub finds : pattern_check p ≡ Ok tt → (edition : Edition) → unmet_held edition row ≡ unmet_of edition p
