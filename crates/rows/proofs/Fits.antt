-- The answers to a reading fit a row: each slice has fewer than 2 ^ 63 bytes, and the current year has 32 bits.
use Rattle.std.specs.Prelude.{Ok, Err, Option}
use mathlib.Core.Bool.{Bool}
use mathlib.Core.List.{List, [], ◌∷◌}
use Prim.Native.Nat.{ℕ, suc, ◌+◌, ◌≤◌}
use native.Mathlib.Omega.{arith}
use lib.Dec.{leb, ltb}
use lib.IntN.{ℤ, pos, negsuc, nat_abs}
use lib.ListN.{length, drop, length-drop}
use Rattle.pattern.proofs.parts.Few.{few-steps}
use mir.Syntax.{w32}
use mir.Val.{SFits}
use Rattle.laws.proofs.Pluses.{behind_part}
use Rattle.laws.proofs.Tests.{when-is}
use Rattle.meaning.specs.Answers.{◌else◌, refuse_unless, within, byte_check, bytes_check, ends_in_lone_quote, pattern_check, text_check, first_current_year, current_year_check, rest_check, details}
use Rattle.meaning.specs.Bytes.{when, both}
use Rattle.meaning.specs.Names.{Book}
use Rattle.meaning.specs.Readers.{Got, got, stopped}
use Rattle.meaning.specs.Reading.{read_step}
use Rattle.meaning.specs.Splitting.{contents}
use Rattle.meaning.specs.Trust.{trust_check}
use Rattle.meaning.specs.Whole.{Gave, Walk, walked, refused_at, walked_by, walk, read_by, read_check, read}
use Rattle.meaning.specs.Writing.{Step, steps, is_negative}
use Rattle.meaning.specs.declared.Carried.{Carried}
use Rattle.meaning.specs.Results.{Checked}
use Rattle.meaning.specs.declared.Choices.{Choices}
use Rattle.meaning.specs.declared.Edition.{Edition}
use Rattle.meaning.specs.declared.Refusal.TheVariants.{LoneQuote, TextTooLong, TextByte, CurrentYear}
use Rattle.rows.proofs.entries.Fits.{else-fits, unless-fits, byte_fits, bytes_fit}
use Rattle.rows.specs.Fits.{NumberFits, WhyFits, CheckedFits, ReadFits}
use Rattle.parse.proofs.steps.Within.{Within}
use Rattle.parse.proofs.rule.Within.{within_step}

-- the checks

pub pattern-fits : (p : List ℕ) → NumberFits (length p) → CheckedFits (pattern_check p)
unfolding pattern_check details
pattern-fits p h =
    else-fits (bytes_check p) (when (ends_in_lone_quote (contents p)) (Err (LoneQuote _)) (Ok tt)) (bytes_fit p h)
    (λ _. when-is CheckedFits (ends_in_lone_quote (contents p)) (λ _. (omega arith, tt)) (λ _. tt))

year-small : (current : ℤ) → SFits w32 current → NumberFits (nat_abs current)
year-small (pos n) h = omega (arith, h.sfits)
year-small (negsuc n) h = omega (arith, h.sfits)

pub year-fits : (edition : Edition) (current : ℤ) → SFits w32 current → CheckedFits (current_year_check edition current)
unfolding current_year_check details
year-fits edition current h =
    when-is CheckedFits (is_negative current) (λ _. (year-small current h, tt)) (λ _. unless-fits (within (first_current_year edition) 9999 (nat_abs current)) (CurrentYear current) (year-small current h, tt))

pub trust-fits : (edition : Edition) (p : List ℕ) (current : ℤ) → NumberFits (length p) → SFits w32 current → CheckedFits (trust_check edition p current)
unfolding trust_check
trust-fits edition p current h y =
    else-fits (pattern_check p) (current_year_check edition current) (pattern-fits p h) (λ _. year-fits edition current y)

pub text-fits : (s : List ℕ) → NumberFits (length s) → CheckedFits (text_check s)
unfolding text_check details
text-fits s h =
    else-fits (refuse_unless (leb (length s) 2048) (TextTooLong (length s))) (byte_check TextByte 0 127 0 s)
    (unless-fits (leb (length s) 2048) (TextTooLong (length s)) (h, tt))
    (λ _. byte_fits TextByte 0 127 0 s (λ j k. (omega arith, tt)))

-- reading

abbrev pub WalkFits : Walk → Type 0
WalkFits (walked taken gave) = NumberFits taken
WalkFits (refused_at why) = WhyFits why

rest-fits : (strict : Bool) (at : ℕ) (s : List ℕ) (gave : List Gave) → NumberFits at → WalkFits (walked_by (rest_check strict at s) at gave)
unfolding details
rest-fits strict at s gave h =
    when-is (λ (checked : Checked). WalkFits (walked_by checked at gave)) (both strict (ltb 0 (length s))) (λ _. (h, tt)) (λ _. h)

module _ (choices : Choices) (book : Book) (current : ℕ) where
  -- by what a part gave
  part-fits : (i at room : ℕ) (g : Got (Option Carried)) (next : ℕ → Option Carried → Walk) → NumberFits i → NumberFits (at + room) → Within room g
      → ((n : ℕ) (c : Option Carried) → n ≤ room → WalkFits (next n c))
      → WalkFits (behind_part i at next g)
  unfolding details
  part-fits i at room (got n c) next h k w on = on n c w
  part-fits i at room (stopped why place) next h k w on = (h, (omega arith, tt))

  pub walk-fits : (i at : ℕ) (ss : List Step) (s : List ℕ) (gave : List Gave) → NumberFits (i + length ss) → NumberFits (at + length s)
      → WalkFits (walk choices book current i at ss s gave)
  unfolding walk
  walk-fits i at [] s gave h k = rest-fits choices.strict at s gave (omega arith)
  walk-fits i at (step ∷ ss) s gave h k =
      part-fits i at (length s) (read_step choices book current step s) _ (omega arith) k (within_step choices book current step s)
      (λ n c l. walk-fits (suc i) (at + n) ss (drop n s) _ (omega arith) (omega (arith, length-drop n s)))

read-by-fits : (checked : Checked) (w : Walk) → CheckedFits checked → WalkFits w → ReadFits (read_by checked w)
read-by-fits (Ok _) (walked taken gave) h k = k
read-by-fits (Ok _) (refused_at why) h k = k
read-by-fits (Err why) w h k = h

pub read_fits : (choices : Choices) (book : Book) (p s : List ℕ) (current : ℤ) → NumberFits (length p) → NumberFits (length s) → SFits w32 current
    → ReadFits (read choices book p s current)
unfolding read read_check
read_fits choices book p s current h k y =
    let checks = else-fits (pattern_check p) (current_year_check choices.edition current else text_check s) (pattern-fits p h)
    (λ _. else-fits (current_year_check choices.edition current) (text_check s) (year-fits choices.edition current y) (λ _. text-fits s k)) in
    read-by-fits (read_check choices.edition p s current) (walk choices book (nat_abs current) 0 0 (steps choices.pair p) s []) checks
    (walk-fits choices book (nat_abs current) 0 0 (steps choices.pair p) s [] (omega (arith, few-steps choices.pair p)) (omega arith))
