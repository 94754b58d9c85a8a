-- The parts are laid where the checks pass, and else nothing is.
use mathlib.Core.Path.{sym, ◌∙◌}
use native.Mathlib.Omega.{arith}
use borrow.Author.Rules.{rules}
use Rattle.laws.proofs.Checks.{fine-short}
use Rattle.rows.proofs.entries.Fits.{bytes_fit}
use Rattle.rows.proofs.splits.Parts.{split-fine, split-refused}
use Rattle.rows.proofs.splits.give_split.Goals as goal

pub lay_parts-requires : goal.lay_parts-requires
lay_parts-requires c =
    (fine-short c.args.pattern.now (sym c.bytes_check.ensures ∙ c.in-Ok.is), omega arith)

pub give_refusal-requires : goal.give_refusal-requires
give_refusal-requires c =
    let p = c.args.pattern.now in
    let fits = rw (← c.bytes_check.ensures, c.in-Err.is) at (bytes_fit p (omega arith)) in
    (search rules, search rules, fits)

pub returns-in-Ok : goal.returns-in-Ok
returns-in-Ok c =
    let fine = split-fine c.args.pattern.now (sym c.bytes_check.ensures ∙ c.in-Ok.is) in
    let parts = c.lay_parts.ensures in
    (rw (fine.0, ← parts.1) c.give_count.ensures, rw (fine.1, ← parts.1) parts.2)

pub returns-in-Err : goal.returns-in-Err
returns-in-Err c =
    let refused = split-refused c.args.pattern.now _ (sym c.bytes_check.ensures ∙ c.in-Err.is) in
    (rw refused.0 c.give_refusal.ensures, rw refused.1)
