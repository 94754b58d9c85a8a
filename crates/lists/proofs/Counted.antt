-- How many lines a list has: 64 signed bits hold it.
use Rattle.std.specs.Prelude.{Ok, Err}
use mathlib.Core.List.{List, [], ◌∷◌}
use Prim.Native.Nat.{ℕ, suc, ◌≤◌}
use native.Mathlib.Omega.{arith}
use lib.Dec.{eqb}
use lib.ListN.{length}
use Rattle.laws.proofs.Tests.{by-test}
use Rattle.meaning.specs.Lists.{newline, before, lines, listed_by}
use Rattle.meaning.specs.Results.{Checked}
use Rattle.rows.specs.Fits.{NumberFits, CheckedFits, CountFits}

few-before : (b : ℕ) (ls : List (List ℕ)) → length (before b ls) ≤ suc (length ls)
few-before b [] = omega arith
few-before b (line ∷ ls) = omega arith

pub few-lines : (s : List ℕ) → length (lines s) ≤ length s
unfolding lines
few-lines [] = omega arith
few-lines (b ∷ s) =
    by-test (eqb b newline) (λ e. rw (e, lines) (omega (arith, few-lines s)))
    (λ e. rw (e, lines) (omega (arith, few-before b (lines s), few-lines s)))

pub listed-by-fits : (checked : Checked) (n : ℕ) → CheckedFits checked → NumberFits n → CountFits (listed_by checked n)
listed-by-fits (Ok _) n h k = k
listed-by-fits (Err why) n h k = h
