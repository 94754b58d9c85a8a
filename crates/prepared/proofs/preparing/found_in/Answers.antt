-- Each verdict is below 2,048, so that nothing wraps.
use Rattle.std.specs.Prelude.{Option}
use mathlib.Core.List.{List}
use mathlib.Core.Path.{◌≡◌, ◌∙◌, ap}
use Prim.Native.Nat.{ℕ, ◌-◌, ◌≤◌, ◌<◌}
use native.Mathlib.Omega.{arith}
use lib.ListN.{length}
use Rattle.meaning.specs.Splitting.{contents}
use Rattle.meaning.specs.declared.Edition.{Edition}
use Rattle.meaning.specs.declared.Edition.TheVariants.{First, Second}
use Rattle.prepared.proofs.verdicts.Numbers.{unmet-small}
use Rattle.prepared.specs.PreparedRows.{unmet_of}
use Rattle.prepared.specs.Verdicts.{unmet_number}
use Rattle.trust.specs.Check.{first_unmet}
use Rattle.trust.specs.declared.Unmet.{Unmet}
use Rattle.prepared.proofs.preparing.found_in.Goals as goal

-- the first need of the whole pattern, by the code's bounds
unmet-is : (edition : Edition) (p : List ℕ) {u : Option Unmet} → u ≡ first_unmet edition (length p - 0) 0 (contents p) → u ≡ unmet_of edition p
unmet-is edition p h = let whole : length p - 0 ≡ length p = omega arith in rw whole at h

below : (edition : Edition) (p : List ℕ) {u : Option Unmet} → length p ≤ 256 → u ≡ first_unmet edition (length p - 0) 0 (contents p) → unmet_number u < 2048
below edition p short h = rw (unmet-is edition p h) (unmet-small edition p short)

pub unmet_number-first-requires : goal.unmet_number-first-requires
unmet_number-first-requires c = below First c.args.pattern.now (omega arith) c.first_unmet.ensures

pub unmet_number-second-requires : goal.unmet_number-second-requires
unmet_number-second-requires c =
    below Second c.args.pattern.now (omega arith) c.first_unmet-2.ensures

pub overflow_mul-result : goal.overflow_mul-result
overflow_mul-result c =
    let p = c.args.pattern.now in
    let first = below First p (omega arith) c.first_unmet.ensures in
    let second = below Second p (omega arith) c.first_unmet-2.ensures in
    record { fits = omega (arith, c.unmet_number-first.ensures, c.unmet_number-second.ensures) }

pub overflow_add-result : goal.overflow_add-result
overflow_add-result c =
    let p = c.args.pattern.now in
    let first = below First p (omega arith) c.first_unmet.ensures in
    let second = below Second p (omega arith) c.first_unmet-2.ensures in
    record { fits = omega (arith, c.unmet_number-first.ensures, c.unmet_number-second.ensures) }

pub overflow_mul-result-2 : goal.overflow_mul-result-2
overflow_mul-result-2 c =
    let p = c.args.pattern.now in
    let first = below First p (omega arith) c.first_unmet.ensures in
    let second = below Second p (omega arith) c.first_unmet-2.ensures in
    record { fits = omega (arith, c.unmet_number-first.ensures, c.unmet_number-second.ensures) }

pub overflow_add-result-2 : goal.overflow_add-result-2
overflow_add-result-2 c =
    let p = c.args.pattern.now in
    let first = below First p (omega arith) c.first_unmet.ensures in
    let second = below Second p (omega arith) c.first_unmet-2.ensures in
    record { fits = omega (arith, c.unmet_number-first.ensures, c.unmet_number-second.ensures) }

pub returns : goal.returns
returns c =
    let p = c.args.pattern.now in
    let first = c.unmet_number-first.ensures ∙ ap unmet_number (unmet-is First p c.first_unmet.ensures) in
    let second = c.unmet_number-second.ensures ∙ ap unmet_number (unmet-is Second p c.first_unmet-2.ensures) in
    omega (arith, first, second)
