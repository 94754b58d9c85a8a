-- The checks of a list: those of its pattern and year, and then that of its rows.
use mathlib.Core.List.{List}
use mathlib.Core.Path.{◌≡◌, sym}
use Prim.Native.Nat.{ℕ}
use lib.IntN.{ℤ}
use Rattle.lists.specs.LineReaders.{rows_check}
use Rattle.laws.proofs.Checks.{else-assoc}
use Rattle.meaning.specs.Answers.{◌else◌, pattern_check, current_year_check}
use Rattle.meaning.specs.Lists.{Rows, list_check}
use Rattle.meaning.specs.Trust.{trust_check}
use Rattle.meaning.specs.declared.Edition.{Edition}

pub list-checks : (edition : Edition) (p s : List ℕ) (current : ℤ) (rows : Rows)
    → list_check edition p s current rows ≡ (trust_check edition p current else rows_check s rows)
unfolding list_check trust_check
list-checks edition p s current rows = sym (else-assoc (pattern_check p) (current_year_check edition current) (rows_check s rows))
