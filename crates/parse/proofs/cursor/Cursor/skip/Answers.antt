-- By how many bytes remain.
use lib.ListN.{drop, length-drop}
use mathlib.Core.Path.{sym}
use native.Mathlib.Omega.{arith}
use Rattle.parse.proofs.cursor.Moves.{skipped-few, skipped-past}
use Rattle.parse.proofs.cursor.Cursor.skip.Goals as goal

pub returns-then-text-self : goal.returns-then-text-self
returns-then-text-self c =
    let a = c.args in
    let s = a.text.now in
    sym (skipped-few a.self.at a.k (drop a.self.at s) (rw length-drop (omega arith)))

pub returns : goal.returns
returns c =
    let a = c.args in
    let s = a.text.now in
    sym (skipped-past a.self.at a.k (drop a.self.at s) (rw length-drop (omega arith)))
