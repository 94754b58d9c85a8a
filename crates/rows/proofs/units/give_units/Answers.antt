-- The entries are laid where the checks pass, and else nothing is.
use mathlib.Core.Path.{sym, ◌∙◌}
use native.Mathlib.Omega.{arith}
use borrow.Author.Rules.{rules}
use Rattle.laws.proofs.Checks.{fine-short}
use Rattle.rows.proofs.entries.Fits.{bytes_fit}
use Rattle.rows.proofs.splits.Parts.{split-fine, split-refused}
use Rattle.rows.proofs.units.Entries.{units-fine, units-refused}
use Rattle.rows.proofs.units.give_units.Goals as goal

pub lay_entries-requires : goal.lay_entries-requires
lay_entries-requires c =
    (fine-short c.args.pattern.now (sym c.bytes_check.ensures ∙ c.in-Ok.is), omega arith)

pub give_refusal-requires : goal.give_refusal-requires
give_refusal-requires c =
    let p = c.args.pattern.now in
    let fits = rw (← c.bytes_check.ensures, c.in-Err.is) at (bytes_fit p (omega arith)) in
    (search rules, search rules, fits)

pub returns-in-Ok : goal.returns-in-Ok
returns-in-Ok c =
    let p = c.args.pattern.now in
    let fine = sym c.bytes_check.ensures ∙ c.in-Ok.is in
    let entries = c.lay_entries.ensures in
    (rw ((split-fine p fine).0, ← entries.1) c.give_count.ensures, rw (units-fine p fine, ← entries.1) entries.2)

pub returns-in-Err : goal.returns-in-Err
returns-in-Err c =
    let p = c.args.pattern.now in
    let refused = sym c.bytes_check.ensures ∙ c.in-Err.is in
    (rw (split-refused p _ refused).0 c.give_refusal.ensures, rw (units-refused p _ refused))
