-- The answers to lists fit a row: a text has at most as many lines as bytes.
use mathlib.Core.List.{List}
use Prim.Native.Nat.{ℕ}
use native.Mathlib.Omega.{arith}
use lib.IntN.{ℤ}
use lib.ListN.{length}
use mir.Syntax.{w32}
use mir.Val.{SFits}
use Rattle.lists.proofs.Counted.{few-lines, listed-by-fits}
use Rattle.meaning.specs.Answers.{◌else◌, refuse_unless, pattern_check, current_year_check, details}
use Rattle.meaning.specs.Lists.{lines, Rows, hold, list_check, read_list}
use Rattle.meaning.specs.Names.{Book}
use Rattle.meaning.specs.declared.Choices.{Choices}
use Rattle.meaning.specs.declared.Edition.{Edition}
use Rattle.meaning.specs.declared.Refusal.TheVariants.{ShortRow}
use Rattle.rows.proofs.Fits.{pattern-fits, year-fits}
use Rattle.rows.proofs.entries.Fits.{else-fits, unless-fits}
use Rattle.rows.specs.Fits.{NumberFits, CheckedFits, CountFits}

-- how many lines

list-check-fits : (edition : Edition) (p s : List ℕ) (current : ℤ) (rows : Rows) → NumberFits (length p) → SFits w32 current
    → CheckedFits (list_check edition p s current rows)
unfolding list_check details
list-check-fits edition p s current rows h y =
    let held = hold (length (lines s)) rows in
    else-fits (pattern_check p) (current_year_check edition current else refuse_unless held ShortRow) (pattern-fits p h)
    (λ _. else-fits (current_year_check edition current) (refuse_unless held ShortRow) (year-fits edition current y)
    (λ _. unless-fits held ShortRow (omega arith, tt)))

pub list-fits : (choices : Choices) (book : Book) (p s : List ℕ) (current : ℤ) → NumberFits (length p) → NumberFits (length s) → SFits w32 current → (rows : Rows) → CountFits (read_list choices book p s current rows)
unfolding read_list
list-fits choices book p s current h k y rows =
    listed-by-fits (list_check choices.edition p s current rows) (length (lines s))
    (list-check-fits choices.edition p s current rows h y) (omega (arith, few-lines s))
