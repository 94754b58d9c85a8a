-- With the mark, Z, and with a sign.
use mathlib.Core.Path.{◌≡◌, sym, ◌∙◌}
use borrow.Author.Rules.{rules}
use lib.IntN.{nat_abs}
use mir.Facts.{to_z-of_z}
use mir.Syntax.{w32}
use mir.Val.{SFits}
use Rattle.laws.proofs.Stamps.{stamp-fine, sizes}
use Rattle.stamps.proofs.writing.Lengths.{mark-long, z-long, shift-long}
use Rattle.stamps.proofs.writing.offset_length.Goals as goal

pub returns-then-t : goal.returns-then-t
returns-then-t c = sym (mark-long c.args.t c.if-t.true)

pub returns-then-size-eq0 : goal.returns-then-size-eq0
returns-then-size-eq0 c =
    let t = c.args.t in
    let fits : SFits w32 t.offset = search rules in
    let sized : c.size.result ≡ nat_abs t.offset = rw (to_z-of_z fits) at c.size.ensures in
    sym (z-long t c.if-t.false (sym sized ∙ c.if-size-eq0.true))

pub returns : goal.returns
returns c =
    let t = c.args.t in
    let fits : SFits w32 t.offset = search rules in
    let sized : c.size.result ≡ nat_abs t.offset = rw (to_z-of_z fits) at c.size.ensures in
    sym (shift-long t c.if-t.false (sizes t (stamp-fine t c.requires)).offset (λ e. c.if-size-eq0.false (sized ∙ e)))
