-- The colon, and what the count behind it gives.
use Rattle.parse.proofs.cursor.Moves.{left_by}
use lib.ListN.{drop}
use mathlib.Core.Path.{sym, ◌∙◌}
use Rattle.meaning.specs.Readers.{skip}
use Rattle.parse.proofs.steps.Within.{skipped-stays, within-skip}
use Rattle.parse.proofs.zones.Zoning.{group-taken}
use Rattle.parse.proofs.zones.take_group.Goals as goal

pub take_count-requires : goal.take_count-requires
take_count-requires c =
    let a = c.args in
    let at = a.cursor.at in
    let text = a.text.now in
    let k = c.colon_length.result in
    skipped-stays at text (skip k (drop at text)) c.requires (within-skip k (drop at text)) (sym c.skip.ensures ∙ c.in_ok-next.was)

pub returns-in_err-next : goal.returns-in_err-next
returns-in_err-next c =
    let a = c.args in
    let at = a.cursor.at in
    let text = a.text.now in
    rw (group-taken at a.colon text, ← c.colon_length.ensures, ← c.skip.ensures, c.in_err-next.was) (left_by c.from_residual.ensures.1)

pub returns : goal.returns
returns c =
    let a = c.args in
    let at = a.cursor.at in
    let text = a.text.now in
    rw (group-taken at a.colon text, ← c.colon_length.ensures, ← c.skip.ensures, c.in_ok-next.was) c.take_count.ensures
