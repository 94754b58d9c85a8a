-- By the row's length and its mark.
use mathlib.Core.Path.{◌∙◌, sym}
use native.Mathlib.Omega.{arith}
use Rattle.prepared.proofs.opening.Parts.{opened-short, opened-unmarked, opened-accepted, opened-refused}
use Rattle.prepared.proofs.opening.open.Goals as goal

pub returns-then-row-lt259 : goal.returns-then-row-lt259
returns-then-row-lt259 c = sym (opened-short c.args.row.now (omega arith))

pub returns-then-mark-lt-TAG : goal.returns-then-mark-lt-TAG
returns-then-mark-lt-TAG c = sym (opened-unmarked c.args.row.now (omega arith) (omega arith))

pub returns-then-n-le256 : goal.returns-then-n-le256
returns-then-n-le256 c = c.accepted.ensures ∙ sym (opened-accepted c.args.row.now (omega arith) (omega arith) (omega arith))

pub returns : goal.returns
returns c = c.refused.ensures ∙ sym (opened-refused c.args.row.now (omega arith) (omega arith) (omega arith))
