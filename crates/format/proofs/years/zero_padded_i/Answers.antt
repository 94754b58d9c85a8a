-- The sign and the size, once the bits are taken away: behind a minus, or by itself.
use mathlib.Core.Path.{sym, ◌∙◌}
use Rattle.meaning.specs.Writing.{signed_text}
use mir.Syntax.{w32}
use mir.ValLaws.{to_z-of_z}
use Rattle.format.proofs.years.zero_padded_i.Goals as goal

pub put_marked-requires : goal.put_marked-requires
unfolding signed_text
put_marked-requires c =
    let e = to_z-of_z w32 c.args.z c.ranges.z in
    let sign = sym (rw e at c.is_negative-negative.ensures) ∙ c.if-negative.true in
    rw (rw e at c.size-n.ensures) (rw sign at c.requires)

pub returns-then-negative : goal.returns-then-negative
unfolding signed_text
returns-then-negative c =
    let e = to_z-of_z w32 c.args.z c.ranges.z in
    let sign = sym (rw e at c.is_negative-negative.ensures) ∙ c.if-negative.true in
    rw (sign, ← (rw e at c.size-n.ensures)) c.put_marked.ensures

pub zero_padded-requires : goal.zero_padded-requires
unfolding signed_text
zero_padded-requires c =
    let e = to_z-of_z w32 c.args.z c.ranges.z in
    let sign = sym (rw e at c.is_negative-negative.ensures) ∙ c.if-negative.false in
    rw (rw e at c.size-n.ensures) (rw sign at c.requires)

pub returns : goal.returns
unfolding signed_text
returns c =
    let e = to_z-of_z w32 c.args.z c.ranges.z in
    let sign = sym (rw e at c.is_negative-negative.ensures) ∙ c.if-negative.false in
    rw (sign, ← (rw e at c.size-n.ensures)) c.zero_padded.ensures
