-- Request [11]: the row that a pattern is prepared into. What stood in it before is left where nothing of the pattern lies.
use Rattle.std.specs.Prelude.{List, [], ◌∷◌, ℕ, ◌+◌, ◌-◌, pos, nat_abs, length, get_or, Option, Ok, Err}
use Rattle.std.proofs.lemmas.List.Edits.{sets}
use Rattle.meaning.specs.Answers.{number, details, pattern_check}
use Rattle.meaning.specs.Splitting.{contents}
use Rattle.meaning.specs.Results.{Checked}
use Rattle.meaning.specs.declared.Edition.{Edition}
use Rattle.meaning.specs.declared.Edition.TheVariants.{First, Second}
use Rattle.meaning.specs.declared.Pair.{Pair}
use Rattle.meaning.specs.declared.Refusal.{Refusal}
use Rattle.trust.specs.Check.{first_unmet}
use Rattle.trust.specs.declared.Unmet.{Unmet}
use Rattle.words.specs.Packing.{packed, held_by}
use Rattle.words.specs.Rows.{tag, xor_from}
use Rattle.prepared.specs.Verdicts.{found_with}

-- the mark, the check word, and what was found
abbrev pub headed : List ℕ → ℕ → ℕ → ℕ → List ℕ
headed row mark check found = sets row 0 (mark ∷ check ∷ found ∷ [])

-- of a pattern that is refused: the number, and its detail twice
abbrev pub detail : Refusal → ℕ
detail why = nat_abs (get_or (details why) 0 (pos 0))

abbrev pub refused_row : Refusal → List ℕ → List ℕ
refused_row why old = headed old (tag + (1024 + number why)) (detail why) (detail why)

-- where held bytes start among the 256 words, so that they end with these
abbrev pub held_start : List ℕ → ℕ
held_start held = 256 - length held

-- words of steps, and held bytes
abbrev pub worded : List ℕ → List ℕ → List ℕ → List ℕ
worded row words held = sets (sets row 3 words) (3 + held_start held) held

-- of an accepted one
abbrev pub accepted_row : List ℕ → List ℕ → ℕ → List ℕ → List ℕ
accepted_row words held found old =
    headed (worded old words held) (tag + length words) (xor_from (xor_from found words) held) found

-- the first need of a pattern that is not met
abbrev pub unmet_of : Edition → List ℕ → Option Unmet
unmet_of edition p = first_unmet edition (length p) 0 (contents p)

unfoldable pub found_of : List ℕ → ℕ
unfolding held_by
found_of p = found_with (held_start (held_by p)) (unmet_of First p) (unmet_of Second p)

abbrev pub row_by : Checked → Pair → List ℕ → List ℕ → List ℕ
row_by (Ok _) pair p old = accepted_row (packed pair p) (held_by p) (found_of p) old
row_by (Err why) pair p old = refused_row why old

unfoldable pub prepared_row : Pair → List ℕ → List ℕ → List ℕ
unfolding pattern_check packed held_by found_of xor_from
prepared_row pair p old = row_by (pattern_check p) pair p old
