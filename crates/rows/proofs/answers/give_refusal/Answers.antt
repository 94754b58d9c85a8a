-- Zeros lie behind the two details, or behind the one.
use mathlib.Core.Path.{ap, ◌∙◌}
use Rattle.refusals.proofs.Integers.{tells-details}
use Rattle.rows.proofs.entries.Stored.{stored, two-details}
use Rattle.rows.proofs.answers.give_refusal.Goals as goal

pub returns-in-Some : goal.returns-in-Some
returns-in-Some c =
    let a = c.args in
    let tell = c.tell-told in
    let first = c.detail_entry-first in
    let second = c.detail_entry in
    record {
      number = ap (λ t. t.number) tell.ensures;
      row =
          c.lay_zeros.ensures
          ∙ rw (c.lay.ensures, stored first.result first.type_inv, first.ensures, stored second.result second.type_inv, second.ensures)
          (two-details tell.result a.why (tells-details a.why tell.ensures) a.entries a.row.now c.in-Some.second c.in-Some.is);
    }
