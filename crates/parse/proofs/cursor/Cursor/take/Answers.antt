-- What the number reader finds in the remaining text.
use lib.ListN.{drop, length-drop}
use mathlib.Core.Path.{sym, ◌∙◌}
use native.Mathlib.Omega.{arith}
use Rattle.parse.proofs.cursor.Moves.{taken-by, taken-within}
use Rattle.pattern.proofs.parts.Walks.{rest_all}
use Rattle.parse.proofs.cursor.Cursor.take.Goals as goal

pub overflow_add-result : goal.overflow_add-result
overflow_add-result c =
    let a = c.args in
    let at = a.self.at in
    let rest = rest_all at a.text.now in
    let found = sym (rw rest at c.read_number.ensures) ∙ c.in-Ok.is in
    omega (arith, taken-within a.kind a.k (drop at a.text.now) found, length-drop at a.text.now)

pub returns-in-Ok : goal.returns-in-Ok
returns-in-Ok c =
    let a = c.args in
    let at = a.self.at in
    let rest = rest_all at a.text.now in
    let found = sym (rw rest at c.read_number.ensures) ∙ c.in-Ok.is in
    rw (taken-by at a.kind a.k (drop at a.text.now), found)

pub returns-in-Err : goal.returns-in-Err
returns-in-Err c =
    let a = c.args in
    let at = a.self.at in
    let rest = rest_all at a.text.now in
    let found = sym (rw rest at c.read_number.ensures) ∙ c.in-Err.is in
    rw (taken-by at a.kind a.k (drop at a.text.now), found)
