-- A verdict that a row holds fits an answer, whatever the row holds: its part is below 256.
use Rattle.std.specs.Prelude.{Option, Some, Ok}
use mathlib.Core.List.{List}
use Prim.Native.Nat.{ℕ, ◌-◌, ◌/◌, ◌%◌, ◌<◌}
use native.Mathlib.Omega.{arith}
use lib.Dec.{eqb}
use Rattle.laws.proofs.Tests.{when-is}
use Rattle.meaning.specs.declared.Edition.{Edition}
use Rattle.meaning.specs.declared.Edition.TheVariants.{First, Second}
use Rattle.rows.specs.Fits.{VerdictFits}
use Rattle.trust.specs.Check.{shown, unmet_at}
use Rattle.trust.specs.declared.Need.{Need}
use Rattle.trust.specs.declared.Need.TheVariants.{Nothing, NoDigit, NoSecondDigit, Broken, LosesYear}
use Rattle.trust.specs.declared.Unmet.{Unmet}
use Rattle.words.specs.Rows.{found}
use Rattle.prepared.specs.Verdicts.{need_in, unmet_in, answer_number, unmet_held}

at-fits : (part : ℕ) (need : Need) → part < 256 → VerdictFits (Ok (shown (Some (unmet_at part need))))
at-fits part Nothing h = (omega arith, omega arith)
at-fits part NoDigit h = (omega arith, omega arith)
at-fits part NoSecondDigit h = (omega arith, omega arith)
at-fits part Broken h = (omega arith, omega arith)
at-fits part LosesYear h = (omega arith, omega arith)

number-below : (edition : Edition) (n : ℕ) → answer_number edition n < 2048
number-below First n = omega arith
number-below Second n = omega arith

unmet-fits : (n : ℕ) → n < 2048 → VerdictFits (Ok (shown (unmet_in n)))
unmet-fits n h =
    when-is (λ (u : Option Unmet). VerdictFits (Ok (shown u))) (eqb n 0) (λ _. tt) (λ _. at-fits ((n - 1) / 8) (need_in ((n - 1) % 8)) (omega arith))

pub verdict-fits : (edition : Edition) (row : List ℕ) → VerdictFits (Ok (shown (unmet_held edition row)))
unfolding unmet_held
verdict-fits edition row = unmet-fits (answer_number edition (found row)) (number-below edition (found row))
