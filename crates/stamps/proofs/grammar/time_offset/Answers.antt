-- Z, or an offset with a sign.
use mathlib.Core.Bool.{false}
use mathlib.Core.Path.{◌≡◌, sym, ap, ◌∙◌}
use lib.ListN.{get_or}
use Rattle.meaning.specs.StampGrammar.{is_z}
use Rattle.stamps.proofs.grammar.DateTimes.{z-read, no-z, none-z}
use Rattle.stamps.specs.Found.{zone_by}
use Rattle.stamps.proofs.grammar.time_offset.Goals as goal
use Rattle.stamps.proofs.grammar.time_offset.Goals.{then-at-text+else-is_z, else-at-text}

pub returns-then-is_z : goal.returns-then-is_z
returns-then-is_z c =
    let a = c.args in
    ap zone_by (sym (z-read a.text.now a.at (sym c.is_z.ensures ∙ c.if-is_z.true)))

pub returns : goal.returns
returns c =
    let a = c.args in
    let other : is_z (get_or a.text.now a.at 0) ≡ false = elim c.if-at-text.branch [ then-at-text+else-is_z w ↦ sym w.is_z.ensures ∙ w.if-is_z.false | else-at-text w ↦ none-z a.text.now a.at w.if-at-text.false ] in
    c.num_offset.ensures ∙ ap zone_by (sym (no-z a.text.now a.at other))
