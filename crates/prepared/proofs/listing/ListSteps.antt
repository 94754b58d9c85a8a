-- The answer to a list by steps fits.
use Rattle.std.specs.Prelude.{Ok}
use mathlib.Core.List.{List}
use Prim.Native.Nat.{ℕ}
use native.Mathlib.Omega.{arith}
use lib.IntN.{ℤ}
use lib.ListN.{length}
use mir.Syntax.{w32}
use mir.Val.{SFits}
use Rattle.lists.proofs.Counted.{few-lines, listed-by-fits}
use Rattle.meaning.specs.Answers.{current_year_check, details}
use Rattle.meaning.specs.Lists.{lines, Rows, hold}
use Rattle.meaning.specs.Prepared.{list_steps_check, read_list_steps}
use Rattle.meaning.specs.declared.Choices.{Choices}
use Rattle.meaning.specs.declared.Edition.{Edition}
use Rattle.meaning.specs.declared.Refusal.TheVariants.{ShortRow}
use Rattle.rows.proofs.Fits.{year-fits}
use Rattle.rows.proofs.entries.Fits.{else-fits, unless-fits}
use Rattle.rows.specs.Fits.{NumberFits, CheckedFits, CountFits}

steps-check-fits : (edition : Edition) (s : List ℕ) (current : ℤ) (rows : Rows) → SFits w32 current → CheckedFits (list_steps_check (Ok tt) edition s current rows)
unfolding list_steps_check details
steps-check-fits edition s current rows h =
    else-fits (current_year_check edition current) _ (year-fits edition current h) (λ _. unless-fits (hold (length (lines s)) rows) ShortRow (omega arith, tt))

pub steps-list-fits : (choices : Choices) (s : List ℕ) (current : ℤ) (rows : Rows) → SFits w32 current → NumberFits (length s)
    → CountFits (read_list_steps (Ok tt) choices s current rows)
unfolding read_list_steps
steps-list-fits choices s current rows h few =
    listed-by-fits (list_steps_check (Ok tt) choices.edition s current rows) (length (lines s)) (steps-check-fits choices.edition s current rows h)
    (omega (arith, few-lines s))
