-- The check of a pattern's bytes is the search for the first that is refused.
use mathlib.Core.List.{List, [], ◌∷◌}
use mathlib.Core.Path.{◌≡◌, refl, ◌∙◌, sym, ap}
use Prim.Native.Nat.{ℕ, suc, ◌≤◌}
use native.Mathlib.Numerals.{add-one}
use native.Mathlib.Omega.{arith}
use lib.ListN.{length}
use Rattle.std.proofs.Common.{Option, Some, None}
use Rattle.std.specs.Prelude.{not, nat_eq, nat_lt, ◌||◌, Ok, Err}
use Rattle.std.specs.List.{position, position_from}
use Rattle.std.proofs.lemmas.Iterator.Adapters.{position_from-zero}
use Rattle.std.proofs.lemmas.Bool.Decides.{nat_tests}
use Rattle.laws.proofs.Tests.{by-test}
use Rattle.meaning.specs.Answers.{within, byte_check, bytes_check}
use Rattle.meaning.specs.Results.{Checked}
use Rattle.meaning.specs.declared.Refusal.TheVariants.{PatternByte}
use Rattle.pattern.proofs.checks.Checks.{short-pattern}

-- what closes the search
abbrev pub refused_at : Option ℕ → Checked
refused_at None = Ok tt
refused_at (Some i) = Err (PatternByte i)

outside : (b : ℕ) → within 1 127 b ≡ not (nat_eq b 0 || nat_lt 127 b)
outside b = grind (arith, nat_tests)

byte_check-from : (i : ℕ) (p : List ℕ) → byte_check PatternByte 1 127 i p ≡ refused_at (position_from (λ b. nat_eq b 0 || nat_lt 127 b) i p)
unfolding byte_check
byte_check-from i [] = refl
byte_check-from i (b ∷ p) =
    by-test (nat_eq b 0 || nat_lt 127 b) (λ e. let w = outside b ∙ ap not e in rw (w, e, byte_check))
    (λ e. let w = outside b ∙ ap not e in rw (w, e, byte_check, add-one i) (byte_check-from (suc i) p))

pub bytes_check-position : (p : List ℕ) → length p ≤ 256 → bytes_check p ≡ refused_at (position (λ b. nat_eq b 0 || nat_lt 127 b) p)
bytes_check-position p h = short-pattern p h ∙ byte_check-from 0 p ∙ ap refused_at (sym (position_from-zero (λ b. nat_eq b 0 || nat_lt 127 b) p))
