-- By what is told of the refusal.
use mathlib.Core.Path.{◌∙◌}
use Rattle.prepared.proofs.preparing.refuse.Goals as goal

pub returns : goal.returns
returns c =
    let tell = c.tell-told in
    c.put_head.ensures ∙ rw tell.ensures
